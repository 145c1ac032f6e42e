pub mod Public
mod EndLemmas
mod GoneLemmas
mod LeavingLemmas
