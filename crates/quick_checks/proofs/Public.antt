-- What crates above may cite: what is known to be held together is so as a region narrows.
pub use Rattle.quick_checks.proofs.TallyLemmas.{tally_stays}
