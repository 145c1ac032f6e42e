-- What crates above may cite: what is written is accepted, and then `check` says yes.
pub use Rattle.command_decide.proofs.AcceptAnswers.{checked_is_yes, written_is_accepted}
