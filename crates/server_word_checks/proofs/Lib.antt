pub mod ServerSlots
