pub mod GoingBack
pub mod Queueing
