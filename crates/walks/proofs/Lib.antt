-- The walks decide soundness. In reading order: what the chains say of a kind; what the tests of a step say; how often numbers stand in a list,
-- summed; a walk that ends meets no slot twice; so a walk decides its chain; what is not tested follows; the pass decides the whole.
pub mod KindsApart
pub mod StepTests
pub mod CountsAddUp
pub mod NoSlotTwice
pub mod WalkDecidesChain
pub mod UntestedFollows
pub mod OnePass
