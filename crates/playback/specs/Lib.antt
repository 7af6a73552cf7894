-- What the replay's contracts cite. Assumes nothing: these are definitions.
pub mod Replay
