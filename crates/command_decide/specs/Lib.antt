-- what a reader must believe: what each command answers and leaves
pub mod Planning
pub mod Checking
-- and what is proved of the files that are written
pub mod Accepted
pub mod Prelude
