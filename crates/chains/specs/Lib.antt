pub mod EditedWords
