-- The proofs, in reading order: the worked cases, computed before what they imply; the smallest whole number not below a fraction; the ticks of a
-- number go by its value; the code's cases; which numbers are refused; a conversion is exact.
pub mod Cases
pub mod Ceilings
pub mod Values
pub mod Fractions
pub mod Conversions
pub mod Exactness
