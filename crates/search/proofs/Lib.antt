-- Public has what crates above may cite; the rest is for this crate alone.
pub mod Public
-- what steps and answers are to each other
pub mod StepLemmas
pub mod EndLemmas
pub mod TextLemmas
pub mod NamedLemmas
-- what the parts of the code leave
pub mod RegionLemmas
pub mod WorkLemmas
pub mod LookLemmas
pub mod LeafLemmas
pub mod RoundLemmas
pub mod WholeLemmas
pub mod StayLemmas
