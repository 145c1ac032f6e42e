-- what a reader must believe: what the command answers
pub mod CheckingParts
pub mod Prelude
