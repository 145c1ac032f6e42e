-- what a reader must believe
pub mod Levels
pub mod Changes
pub mod Caches
pub mod Asked
pub mod Rules
-- what the laws say beside it
pub mod Laws
pub mod Parts
pub mod Words
pub mod Prelude
