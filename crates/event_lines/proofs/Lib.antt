pub mod LineLemmas
pub mod Public
