-- EditedWords: the words of a table after one slot went into a chain or out of it.
pub mod EditedWords
