pub mod Order
pub mod Deadlines
pub mod Delays
