-- what a reader must believe
pub mod Numbers
pub mod Groups
pub mod Splits
pub mod Cuts
pub mod Parts
pub mod Unions
-- what the laws say beside it
pub mod Embeds
pub mod Laws
