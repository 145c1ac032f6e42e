-- Public has what crates above may cite; the rest is for this crate alone.
pub mod Public
mod Prelude
pub mod TurnLemmas
pub mod SoundLemmas
-- the text of a step names it, and what is written of a tree is accepted
mod NamedLemmas
mod WrittenLemmas
mod LineLemmas
mod AcceptLemmas
