mod Prelude
mod BrokenLemmas
mod SpotLemmas
mod TogetherLemmas
mod ActingLemmas
mod ScatteredLemmas
mod ElsewhereLemmas
