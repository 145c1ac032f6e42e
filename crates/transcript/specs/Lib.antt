-- what a reader must believe
pub mod Lines
pub mod Transcript
pub mod Laws
pub mod Causes
-- what the parts of the run give
pub mod Parts
pub mod Prelude
