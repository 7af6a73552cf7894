-- Laws of Boolean tests; what the tests of the header say, and those of a slot.
pub mod BooleanTests
pub mod HeaderTests
pub mod SlotTests
