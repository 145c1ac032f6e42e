-- what a reader must believe: the statuses, and what is seen from outside
pub mod Codes
pub mod Answer
pub mod Inputs
pub mod Outputs
pub mod Printed
pub mod Causes
-- and how a command ends
pub mod Endings
pub mod Prelude
