-- what a reader must believe
pub mod Phases
pub mod Steps
pub mod Answers
pub mod Laws
pub mod Views
-- how the monitor keeps it
pub mod Tables
pub mod Kept
pub mod Prelude
