mod Prelude
pub mod Public
mod AskLemmas
mod ChangeLemmas
mod EndLemmas
mod StartLemmas
mod TellLemmas
mod WidenLemmas
