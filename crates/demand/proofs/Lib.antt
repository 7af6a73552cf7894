-- The proofs, in reading order: laws of what a list of calls means; the table keeps to it; demand 3 and its readings; cases of what lists of calls mean,
-- computed.
pub mod HistoryLaws
pub mod ChainLaws
pub mod QueueLaws
pub mod ClockLaws
pub mod Simulation
pub mod ClockSimulation
pub mod Agreement
pub mod SingleCalls
pub mod Lasting
pub mod Demand3
pub mod Readings
pub mod CallReadings
pub mod AnswerReadings
pub mod ChainReadings
pub mod QueueReadings
pub mod LeapReadings
pub mod EventCases
pub mod PartyCases
pub mod ServerCases
