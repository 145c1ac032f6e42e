-- Public has what crates above may cite; the rest is for this crate alone.
pub mod WantedLemmas
pub mod JudgeLemmas
pub mod SectionLemmas
pub mod WholeLemmas
