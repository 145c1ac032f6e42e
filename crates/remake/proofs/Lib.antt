pub mod NameLemmas
pub mod AddLemmas
pub mod Public
