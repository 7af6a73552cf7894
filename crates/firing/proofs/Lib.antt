-- The proofs, in reading order: the slots of some links, changed; firing in two rounds; the entries of the fired list; the first link of a
-- chain; the loop of the first round; both on a table; some ticks nearer; the clock's words; and, for the crate above, a tick
-- and a set clock from their steps.
pub mod ChangedSlots
pub mod TwoRounds
pub mod Entries
pub mod Heads
pub mod TakingOff
pub mod BothRounds
pub mod Nearer
pub mod ClockWords
pub mod Ticks
