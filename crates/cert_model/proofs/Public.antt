-- What crates above may cite: the law, by the name of its statement in specs/, that the steps of a proof leave nothing open, and what
-- more than one crate needs of values and of choices.
pub use Rattle.relax.proofs.Public.{end_small}
pub use Rattle.cert_model.proofs.{StandLemmas.no_value, WholeLemmas.proofs_hold, WholeLemmas.whole_of}
