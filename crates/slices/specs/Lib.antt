-- what a reader must believe
pub mod Elements
pub mod Actions
pub mod Plans
pub mod Stages
pub mod Snapshots
pub mod Forms
pub mod Holds
pub mod Rules
pub mod Costs
-- what the laws and the code's contracts say beside it
pub mod Limits
pub mod Holdings
pub mod Legal
pub mod Fewer
pub mod Starts
pub mod Parts
pub mod Ends
pub mod ByNode
pub mod Prelude
