-- What crates above may cite: the law, by the name of its statement in specs/.
pub use Rattle.search.proofs.EndLemmas.{tree_is_true}
