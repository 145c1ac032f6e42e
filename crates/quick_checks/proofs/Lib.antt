-- Public has what crates above may cite; the rest is for this crate alone.
mod Prelude
mod ComingLemmas
mod ElsewhereLemmas
mod HoldLemmas
mod KnownLemmas
mod ScatteredLemmas
mod TallyLemmas
mod WeighedLemmas
pub mod Public
