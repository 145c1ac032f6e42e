-- what a reader must believe
pub mod Given
pub mod Watches
pub mod Indexes
-- what the laws say beside it, and what the trait of watchers asks a proof of
pub mod Broken
pub mod Quiet
pub mod Words
pub mod Prelude
