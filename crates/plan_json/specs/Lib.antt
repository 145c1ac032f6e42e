pub mod Walk
pub mod Actions
pub mod Plans
pub mod Texts
pub mod Print
pub mod Marks
pub mod Prelude
