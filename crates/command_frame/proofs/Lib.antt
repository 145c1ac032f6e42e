-- Public has what crates above may cite; the rest is for this crate alone.
pub mod Public
pub mod Ends
pub mod LastLines
pub mod OutputLemmas
pub mod Printing
pub mod Readings
