mod Prelude
-- Public has what crates above may cite; the rest is for this crate alone.
pub mod Public
mod TurnLemmas
mod AskLemmas
mod PairLemmas
mod CoverLemmas
mod LevelLemmas
mod ChangeLemmas
mod TrailLemmas
mod QuietLemmas
