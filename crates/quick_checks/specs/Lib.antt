-- what a reader must believe
pub mod Known
pub mod Tallies
-- what the code's contracts say beside it
pub mod Posts
pub mod Weighed
pub mod Prelude
