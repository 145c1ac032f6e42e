-- What crates above may cite: the laws, by the names of their statements in specs/.
pub use Rattle.command_decide.proofs.Public.{written_is_accepted}
pub use Rattle.commands.proofs.AcceptAnswers.{explained_is_checked, left_open_is_checked, planned_is_checked}
