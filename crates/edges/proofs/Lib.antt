-- Signs has what is known of a number below zero.
pub mod Signs
