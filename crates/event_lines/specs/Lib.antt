-- what a reader must believe
pub mod Lines
pub mod Reading
pub mod Prelude
