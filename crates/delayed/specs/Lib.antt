pub mod Starts
pub mod Lines
pub mod Order
pub mod Parties
