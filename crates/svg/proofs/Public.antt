-- What crates above may cite.
pub use Rattle.svg.proofs.Lists.{flat_more}
