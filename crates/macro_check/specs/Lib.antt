pub mod Passed
pub mod Blocks
pub mod Parts
