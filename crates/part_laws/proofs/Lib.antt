-- Public has what crates above may cite; the rest is for this crate alone.
pub mod Public
pub mod AcceptLemmas
pub mod AnswerLemmas
