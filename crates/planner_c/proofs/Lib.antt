-- The law that the proofs share. Assumes nothing.
pub mod Exported
