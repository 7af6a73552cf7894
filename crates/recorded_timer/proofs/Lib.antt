-- The proofs, in reading order: one recorded call; the worked cases.
pub mod Steps
pub mod Cases
