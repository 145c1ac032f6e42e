-- what a reader must believe
pub mod Covers
-- what the code says beside it
pub mod Amounts
pub mod Periods
pub mod Prelude
