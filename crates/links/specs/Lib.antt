pub mod InOrder
pub mod Places
pub mod Tables
pub mod TimerWords
