-- The proofs, in reading order: where the words of a call stand; from one place to the next; each way out of the replay; a replay as a
-- person would read it; that the first 48,024 bytes decide; how large a place or position can be, and
-- what is long enough; the worked cases.
pub mod CallWords
pub mod Places
pub mod WaysOut
pub mod Readings
pub mod LongInput
pub mod Bounds
pub mod Cases
