-- The proofs, in reading order: a periodic timer that waits again; the loop over the entries of those that fired; a server timer at the back of
-- the queue.
pub mod WaitingAgain
pub mod GoingBack
pub mod Queueing
