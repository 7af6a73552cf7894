-- The proofs, in reading order: words of bytes; how far words are right by their rules; of a call, of calls, of a recording; the word of a call; each way out of the reader;
-- what a recording that is taken holds; what a reader looks for; that the first 48,024 bytes decide; the worked cases.
pub mod ByteWords
pub mod Right
pub mod Reach
pub mod Calls
pub mod Answers
pub mod TakenFacts
pub mod Readings
pub mod LongInput
pub mod Cases
