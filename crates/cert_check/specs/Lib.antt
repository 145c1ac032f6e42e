-- which step a line names
pub mod Names
-- what the lines of a certificate say, and what a yes means
pub mod Verdicts
-- what follows for a certificate that is written from a tree
pub mod Laws
-- and what holds from line to line
pub mod Turns
pub mod Prelude
