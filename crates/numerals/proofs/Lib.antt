pub mod Public
mod NumberLemmas
