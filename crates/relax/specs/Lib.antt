pub mod Areas
pub mod Laws
pub mod Members
pub mod Rows
pub mod Prelude
