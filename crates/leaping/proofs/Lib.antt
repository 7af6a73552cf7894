-- The proofs, in reading order: the clock after many ticks; the words from which the code reads how far the first timer is; the ticks in which none
-- is due, at once; how many they are; and a leap from them and one tick.
pub mod ClockRuns
pub mod Soonest
pub mod Skips
pub mod Until
pub mod Leaping
