-- A party's view of a state; what each call is to it; isolation, and how it reads; computed cases.
pub mod Views
pub mod Unwinding
pub mod Isolated
pub mod Cases
