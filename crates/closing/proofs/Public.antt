-- What crates above may cite: the laws, by the names of their statements in specs/.
pub use Rattle.closing.proofs.LocalLemmas.{constraint_is_local, load_is_local, change_instants_are_enough, usable_is_local}
pub use Rattle.closing.proofs.ClosedLemmas.{closed_by_watches}
pub use Rattle.closing.proofs.SomeLemmas.{change_instants_of_some_are_enough}
