-- Public has what crates above may cite; the rest is for this crate alone.
pub mod Public
mod Prelude
pub mod EndLemmas
pub mod CountLemmas
pub mod LeanLemmas
pub mod PlanLemmas
pub mod WholeLemmas
pub mod StandLemmas
pub mod FollowLemmas
pub mod CountedLemmas
