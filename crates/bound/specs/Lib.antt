pub mod Sums
pub mod Laws
pub mod Losses
pub mod Prelude
