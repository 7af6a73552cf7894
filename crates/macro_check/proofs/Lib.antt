pub mod BlockLaws
pub mod Cases
pub mod OpenLaws
pub mod ScanLaws
pub mod StepChecks
pub mod Scans
