-- What holds of a table whose server is not initiated: which kinds occur, and that the queue is empty.
pub mod PlainKinds
pub mod NoQueue
