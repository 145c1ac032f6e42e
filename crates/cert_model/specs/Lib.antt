-- the regions that are open
pub mod Open
-- what propagators know of them
pub mod Following
-- what a walk keeps, and what its answers mean
pub mod Walks
-- what follows where it ends well
pub mod Laws
-- what the code keeps beside it
pub mod Frontiers
pub mod Prelude
