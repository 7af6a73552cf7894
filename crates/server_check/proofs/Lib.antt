pub mod LastSlot
