mod Prelude
pub mod DoubtLemmas
pub mod FreeLemmas
pub mod KeptLemmas
pub mod DirtyLemmas
pub mod SetLemmas
pub mod ConfirmLemmas
pub mod StayLemmas
mod StillLemmas
