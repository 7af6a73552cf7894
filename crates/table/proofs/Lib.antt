-- KindTests: the model's kinds as the numbers of the layout.
pub mod KindTests
