-- what a reader must believe
pub mod Subs
pub mod Explained
pub mod Laws
-- of the code alone
pub mod Trials
-- what is cited together
pub mod Prelude
