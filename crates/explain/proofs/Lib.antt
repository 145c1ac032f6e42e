pub mod NumberLemmas
pub mod PickLemmas
pub mod NeutralLemmas
pub mod FewerLemmas
pub mod SubLemmas
pub mod CoreLemmas
pub mod Public
