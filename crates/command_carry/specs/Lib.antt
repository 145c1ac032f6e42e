-- what a reader must believe: what each command answers, leaves and takes from the source
pub mod Executing
pub mod Repairing
pub mod Prelude
