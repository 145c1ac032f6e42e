pub mod Public
pub mod CostLemmas
pub mod EndLemmas
