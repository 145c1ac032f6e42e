-- what a reader must believe
pub mod Solved
pub mod Answers
-- and of a law
pub mod Laws
pub mod Prelude
