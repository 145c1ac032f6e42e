-- What crates above may cite: the law, by the name of its statement in specs/; and a tree each of whose steps can be written is one of those that the law speaks of.
pub use Rattle.cert_check.proofs.AcceptLemmas.{certificate_is_accepted}
pub use Rattle.cert_check.proofs.WrittenLemmas.{cost_fits, is_writable}
