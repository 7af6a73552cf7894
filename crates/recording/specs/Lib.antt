-- What the reader's contracts cite. Assumes nothing: these are definitions.
pub mod Format
pub mod CallNumbers
