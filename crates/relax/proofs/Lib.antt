-- Public has what crates above may cite; the rest is for this crate alone.
pub mod Public
mod Prelude
mod AwayLemmas
mod EndLemmas
mod FloorLemmas
mod LeastLemmas
mod MemberLemmas
mod MoveLemmas
mod OneNodeLemmas
mod PlanLemmas
mod StartLemmas
