pub mod Initiated
pub mod HandedOut
