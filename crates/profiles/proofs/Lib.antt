-- Public has what crates above may cite; the rest is for this crate alone.
pub mod Public
mod Prelude
pub mod FirstLemmas
mod FixedLemmas
mod RankLemmas
mod MoverLemmas
mod NearLemmas
mod NodeLoadLemmas
mod NumberListLemmas
mod SumLemmas
