-- what a reader must believe: what the bytes of groups mean, and whether they split a problem
pub mod Groups
pub mod Splitting
pub mod Prelude
