-- The proofs, in reading order: the worked cases, computed before what they imply; starts by seconds; a start by a delay is a call, and demand 3
-- covers it; so does item 14; so does, of two parties, item 10.
pub mod Cases
pub mod Seconds
pub mod Lines
pub mod Order
pub mod Parties
