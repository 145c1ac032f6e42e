-- Public has what crates above may cite; the rest is for this crate alone.
pub mod Public
mod StepLemmas
mod GrowLemmas
mod TurnLemmas
mod CountLemmas
mod LeaveLemmas
mod LeastLemmas
mod GoalLemmas
mod PlanLemmas
mod GatherLemmas
mod FoundLemmas
mod CheapLemmas
mod FitLemmas
