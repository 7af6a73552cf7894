pub mod Cases
pub mod RunLaws
pub mod Signing
pub mod StepLaws
pub mod Stopping
