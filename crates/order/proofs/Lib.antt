-- Pairs of lines computed; changes of two slots commute; each call is such a change; the statement and its converse; how they read.
pub mod Cases
pub mod Commute
pub mod Lines
pub mod Swapped
pub mod Readings
