-- what a reader must believe
pub mod Sure
pub mod Reasons
pub mod Closed
pub mod Start
-- what the laws say beside it
pub mod Laws
pub mod Quiet
pub mod Settings
pub mod Regions
pub mod Prelude
