-- Public has what crates above may cite; the rest is for this crate alone.
pub mod Public
pub mod AcceptAnswers
pub mod Causing
pub mod Printing
pub mod Rows
pub mod Sources
