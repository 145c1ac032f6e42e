pub mod Making
pub mod Prelude
