pub mod Listing
pub mod Lines
pub mod Shown
pub mod Prelude
