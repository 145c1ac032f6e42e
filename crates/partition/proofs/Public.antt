-- What crates above may cite.
pub use Rattle.partition.proofs.SplitProblemLemmas.{part_count, part_is}
