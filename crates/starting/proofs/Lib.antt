-- Starts has what comes of a start, and of a call that makes one behind its opening; Dates what a start for a date asks of it.
pub mod Starts
pub mod Dates
