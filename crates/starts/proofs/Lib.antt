-- Opened has the outcome of a call that starts a timer behind its opening; Stored what reset finds in the slot.
pub mod Opened
pub mod Stored
