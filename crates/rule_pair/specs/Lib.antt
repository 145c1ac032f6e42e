-- what a reader must believe
pub mod Covers
-- what the code says beside it
pub mod Apart
pub mod Kept
pub mod Longest
pub mod Reach
pub mod Stays
pub mod Twins
pub mod Unmoved
pub mod Prelude
