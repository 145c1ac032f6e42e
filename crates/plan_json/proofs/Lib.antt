pub mod NameLemmas
pub mod Finding
pub mod MarkLemmas
pub mod ChoiceLemmas
pub mod Printed
pub mod Again
pub mod ReadBack
pub mod Sizes
