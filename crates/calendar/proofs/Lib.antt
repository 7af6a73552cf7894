-- Theorems.antt has what a reader and a caller want to know of the calendar, Turns.antt how often seconds to date goes round its loops; the others
-- are the lemmas below them.
pub mod Turns
pub mod Spans
pub mod Years
pub mod Months
pub mod Validity
pub mod Found
pub mod NextDay
pub mod Theorems
