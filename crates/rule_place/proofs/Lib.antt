mod Prelude
mod AllowedLemmas
mod BrokenLemmas
mod DirtyLemmas
pub mod KeepLemmas
mod NodeLemmas
mod OptionalLemmas
mod PresentLemmas
mod RowLemmas
mod ShutdownLemmas
mod SparedLemmas
