-- The proofs, in reading order: if any plan is accepted, the plan back to back is; what the planner's loops come to; the planner's statuses, and that it
-- refuses with 13 exactly if no plan is accepted; what a reader looks for; the worked cases.
pub mod Packing
pub mod Proposing
pub mod Theorems
pub mod Readings
pub mod Cases
