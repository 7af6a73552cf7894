pub mod Plans
pub mod Checker
pub mod Parts
