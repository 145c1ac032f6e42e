-- What crates above may cite: the laws, by the names of their statements in specs/, and that no generated problem is infeasible.
pub use Rattle.instance_make.proofs.ShortText.{generated_text_is_short}
pub use Rattle.instance_make.proofs.Valid.{emptying_is_valid, is_feasible}
