-- what a reader must believe
pub mod Trees
pub mod Proving
pub mod Goals
pub mod Searching
pub mod Certificates
-- what the laws say beside it
pub mod Laws
pub mod Finding
pub mod Prelude
