-- What crates above may cite.
pub use Rattle.solver.proofs.{AcceptLemmas.certified_is_accepted, CertifyLemmas.untouched, CertifyLemmas.whole_plan}
