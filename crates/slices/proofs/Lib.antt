-- Public has what crates above may cite; the rest is for this crate alone.
pub mod Public
mod DurationLemmas
mod MemberLemmas
mod PlaceLemmas
mod HoldingLemmas
mod FormLemmas
mod FewerLemmas
mod PartLemmas
mod PlanLemmas
mod StartLemmas
mod LastLemmas
mod FirstLemmas
mod EndLemmas
mod NodeLemmas
