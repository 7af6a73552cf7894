pub mod Parties
pub mod Ids
