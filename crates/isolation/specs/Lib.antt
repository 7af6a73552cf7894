pub mod Isolation
