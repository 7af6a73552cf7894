pub mod Exporting
pub mod Cases
