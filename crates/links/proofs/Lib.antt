-- The proofs, in reading order: which kinds stop, and where they wait; a link in the middle of a chain; one link more or less; out of a chain; the
-- words that a start writes; into a chain; steps that follow one another; a stop and then a start; what keeps the chains in order; how far in a chain a slot stands; to the
-- place of a new link; back along the previous links; a slot's own words.
pub mod StoppedKinds
pub mod LinkInMiddle
pub mod Relinked
pub mod Extracting
pub mod TimerWords
pub mod Inserting
pub mod NextState
pub mod Restart
pub mod Kept
pub mod Positions
pub mod WalkToPlace
pub mod BackAlongChain
pub mod Storing
