-- what a reader must believe
pub mod NodeRooms
pub mod HoldOn
pub mod KeptAt
pub mod Periods
-- what the code's contracts say beside it
pub mod Measured
pub mod Parts
pub mod Totals
pub mod Words
pub mod Prelude
