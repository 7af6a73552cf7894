-- What the writer's contract cites, and item 9's claims. Assumes nothing: these are definitions.
pub mod Writing
pub mod RoundTrip
