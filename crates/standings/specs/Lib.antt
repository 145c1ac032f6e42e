-- what a reader must believe
pub mod Levels
pub mod Standings
pub mod Tables
pub mod Hosts
-- what the laws and the code's contracts say beside it
pub mod Ends
pub mod Laws
pub mod Leaves
pub mod Prelude
