pub mod Parts
pub mod Elements
pub mod Failures
pub mod Better
pub mod Prelude
