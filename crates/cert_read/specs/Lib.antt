pub mod Lines
pub mod Reader
pub mod Inside
pub mod Laws
pub mod Prelude
