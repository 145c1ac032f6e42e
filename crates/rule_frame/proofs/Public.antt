-- What crates above may cite: the laws, by the names of their statements in specs/; the first and the last start at a place; and that a change leaves no choices but those before.
pub use Rattle.rule_frame.proofs.ChangeLemmas.{still_clean, unseen_still}
pub use Rattle.rule_frame.proofs.StartLemmas.{cases_in, first_of, last_of, later_in, narrowed_is_fewer, no_less}
