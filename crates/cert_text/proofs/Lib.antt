pub mod Public
mod NodeLemmas
mod SpacedLemmas
mod ReadingLemmas
mod NamesLemmas
mod PartLemmas
mod LineLemmas
mod SplitLemmas
mod StepLemmas
mod LengthLemmas
