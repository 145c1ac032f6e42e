-- what a reader must believe
pub mod Near
pub mod Movers
pub mod Firsts
pub mod Fixed
pub mod NodeLoad
-- what the code's contracts say beside it
pub mod Ranks
pub mod Prelude
