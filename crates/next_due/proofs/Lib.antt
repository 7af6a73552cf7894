-- The tests of next due.
pub mod FirstTests
