-- What crates above may cite: the law, by the name of its statement in specs/, and what solved parts have.
pub use Rattle.part_solver.proofs.AnswerLemmas.{all_solved, answered_is_true, part_valid, plan_at, plans_there}
