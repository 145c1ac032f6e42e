pub mod Public
pub mod Loops
pub mod Fitting
pub mod NameLemmas
pub mod ListLemmas
pub mod RuleLemmas
