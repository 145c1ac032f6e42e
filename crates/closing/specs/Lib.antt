-- what a reader must believe
pub mod Watches
pub mod Kinds
pub mod Looks
-- what the laws and the code say beside it
pub mod Laws
pub mod Forms
pub mod Most
pub mod Parts
pub mod Stands
pub mod ChangeInstants
pub mod Prelude
