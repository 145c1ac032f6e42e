-- What crates above may cite: the laws, by the names of their statements in specs/. All else under proofs/ is private.
pub use Rattle.rule_script.proofs.LawLemmas.{sets_are_exact}
pub use Rattle.rule_script.proofs.AddLemmas.{scripts_add}
pub use Rattle.rule_script.proofs.StatementLemmas.{statements_are_exact}
