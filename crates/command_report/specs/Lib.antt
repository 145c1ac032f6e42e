-- what a reader must believe: what each command answers and leaves
pub mod Replaying
pub mod Showing
pub mod Picturing
pub mod Prelude
