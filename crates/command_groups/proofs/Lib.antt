pub mod GroupReadings
pub mod SplitReadings
