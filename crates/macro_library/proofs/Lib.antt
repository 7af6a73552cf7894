pub mod Cases
pub mod LibraryLaws
