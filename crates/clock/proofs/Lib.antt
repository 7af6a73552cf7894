-- Verdicts has what the check says; Lists whether the lent list is long enough; Clocks what each call leaves.
pub mod Verdicts
pub mod Lists
pub mod Clocks
pub mod Differences
