-- what a reader must believe
pub mod Covers
pub mod Nodes
-- what the code says beside it
pub mod Dirty
pub mod Allowed
pub mod Shutdowns
-- what the trait of watchers asks a proof of
pub mod Quiet
pub mod Words
pub mod Prelude
