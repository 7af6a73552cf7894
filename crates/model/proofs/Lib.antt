-- Cases that are computed from the definitions: the starred ones, worked ones, every call on every kind, parties, next due's rules; the clock, the
-- server, leap and next due.
pub mod Cases
pub mod WorkedCases
pub mod EveryKind
pub mod PartyCases
pub mod NextDueRules
pub mod ClockCases
pub mod ServerCases
pub mod LeapCases
pub mod NextDueCases
