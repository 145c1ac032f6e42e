-- what a reader must believe
pub mod Covers
-- what the code says beside it
pub mod Spots
pub mod Together
pub mod Acting
pub mod Scattered
pub mod Prelude
