-- What crates above may cite. All else under proofs/ is private.
pub use Rattle.part_laws.proofs.AnswerLemmas.{answered_is_accepted}
