pub mod Proposal
pub mod Planner
