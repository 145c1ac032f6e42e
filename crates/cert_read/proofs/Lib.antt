mod NewlineLemmas
mod PieceLemmas
mod LineLemmas
mod TurnLemmas
mod BackLemmas
pub mod Public
