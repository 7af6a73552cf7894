-- The proofs, in reading order: bytes and stores; words that are zero; calls one by one; when a file is taken, and the writer's ways out; item 9's claims; the worked cases.
pub mod Stores
pub mod Zeros
pub mod CallByCall
pub mod Files
pub mod RoundTrip
pub mod Cases
