-- Public has what crates above may cite; the rest is for this crate alone.
pub mod Public
mod Prelude
mod ChangeLemmas
mod ChoiceLemmas
mod HostLemmas
mod LawLemmas
mod LeaveLemmas
mod LevelLemmas
mod ListLemmas
mod NumberLemmas
mod RowLemmas
mod SeenLemmas
mod StayLemmas
mod TableLemmas
