mod Prelude
pub mod Public
mod AddLemmas
mod ChoiceLemmas
mod IndexLemmas
mod KeptLemmas
mod DirtyLemmas
mod SettingLemmas
