-- What crates above may cite: what the answers, the endings and the files of commands are built of.
pub use Rattle.command_frame.proofs.Ends.{answers_refused, answers_well, ends_from, ends_from_plan, ends_more, left_from_plan, left_same, left_unread, refused_instance, refused_plan, refused_problem, refused_write, says, value_is_no_fault}
pub use Rattle.command_frame.proofs.LastLines.{always_anyhow, anyhow_more, anyhow_with_line, ends_with_line}
pub use Rattle.command_frame.proofs.{OutputLemmas.cut_in_none, OutputLemmas.rest_of_both, Printing.prints_from_plan, Printing.prints_last, Printing.prints_more, Printing.prints_nothing}
