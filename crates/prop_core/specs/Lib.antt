-- what a reader must believe
pub mod Propagators
pub mod Lists
pub mod Levels
pub mod Tests
pub mod Words
pub mod Prelude
