pub mod Seconds
pub mod Exact
