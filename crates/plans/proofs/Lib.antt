-- The proofs, in reading order: the limits as facts; two jobs that overlap or do not; the jobs from one on; what the checker's loop comes to; the
-- checker's statuses; a plan tick by tick; what a reader looks for; the worked cases.
pub mod Limits
pub mod Pairs
pub mod Bookings
pub mod Checking
pub mod Verdicts
pub mod Ticks
pub mod Readings
pub mod Cases
