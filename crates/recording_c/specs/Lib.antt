-- What the exports' contracts cite. Assumes nothing: these are definitions.
pub mod Exports
