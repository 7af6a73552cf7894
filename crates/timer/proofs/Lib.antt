-- Lookups has what create and ident find; Tables what create, delete and lay out leave; TicksLeft what ticks left answers.
pub mod Lookups
pub mod Tables
pub mod TicksLeft
