-- What crates above may cite: the laws, by the names of their statements in specs/. All else under proofs/ is private.
pub use Rattle.explain.proofs.SubLemmas.{sub_of_all, sub_sound}
pub use Rattle.explain.proofs.CoreLemmas.{fewer_rules, numbers_all, numbers_without}
