-- what the code says
pub mod Ends
pub mod Gone
pub mod Prelude
