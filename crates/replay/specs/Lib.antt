pub mod Events
pub mod Lines
pub mod Report
pub mod Prelude
