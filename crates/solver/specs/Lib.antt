-- what a reader must believe: what a solver does that certifies an answer
pub mod Certifying
-- and of a law
pub mod Laws
pub mod Prelude
