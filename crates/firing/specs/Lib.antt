pub mod Lists
pub mod Nearer
