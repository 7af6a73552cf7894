-- What the chapters' proofs share: each `return` of a call in one line, and the openings. Assumes nothing.
pub mod Replies
pub mod Openings
