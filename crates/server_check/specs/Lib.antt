pub mod LastSlots
