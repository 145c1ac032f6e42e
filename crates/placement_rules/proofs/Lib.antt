mod Prelude
pub mod Public
mod Members
mod Noting
mod LabelLemmas
mod Reaching
mod Turns
