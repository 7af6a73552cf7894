pub mod Cases
pub mod KindLaws
