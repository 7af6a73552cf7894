pub mod Cases
pub mod CountLaws
pub mod Kept
