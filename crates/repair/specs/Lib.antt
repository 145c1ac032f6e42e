-- what a reader must believe
pub mod Rest
pub mod Answers
pub mod Events
pub mod Laws
-- what the parts of a reading of events give
pub mod Parts
-- what is cited together
pub mod Prelude
