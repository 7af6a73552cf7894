-- Opened has the outcome of a server's start behind its opening; QueueWalk the way along the queue to the party's first; Serving the table and the list
-- after that one was handed out.
pub mod Opened
pub mod QueueWalk
pub mod Serving
