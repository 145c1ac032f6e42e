-- what a reader must believe: what the command answers and leaves
pub mod Explaining
pub mod Prelude
