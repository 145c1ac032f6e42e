pub mod SplitLemmas
pub mod FailureLemmas
