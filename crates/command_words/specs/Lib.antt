-- what a reader must believe: which command words are, and how the program holds one
pub mod Words
pub mod Meaning
pub mod Prelude
