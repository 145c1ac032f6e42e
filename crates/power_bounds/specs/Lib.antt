-- what the code says
pub mod Powers
pub mod Prelude
