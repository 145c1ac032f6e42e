-- what a reader must believe
pub mod Watched
pub mod Kept
-- what the code's contracts and the rule's laws say beside it
pub mod Dirty
pub mod Free
pub mod Quiet
pub mod Words
pub mod Prelude
