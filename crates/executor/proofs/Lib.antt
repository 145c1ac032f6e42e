pub mod StepLemmas
pub mod SafeLemmas
pub mod GoingOn
pub mod TableLemmas
pub mod ReadyLemmas
pub mod RestLemmas
pub mod Measure
pub mod Public
