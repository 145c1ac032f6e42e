pub mod Standing
pub mod Where
pub mod Verdict
pub mod Starts
pub mod Prelude
