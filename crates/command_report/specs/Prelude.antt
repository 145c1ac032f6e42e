-- What is cited together of this crate and of those below it, passed on from one place. Declares nothing.
pub use Rattle.command_frame.specs.Prelude.{Choices, choices_of, CountsWrites, Files, Instance, instance_in, IsCut, IsOfWriting, IsPlanOf, LeavesFromPlan, OthersStay, outside, outcome_status, PartCauses, plan_in, WriteCauses}
pub use Rattle.command_frame.specs.declared.status.Status.{Status}
unfoldable pub use Rattle.command_frame.specs.Prelude.{AnswersFromPlan, Ends, PrintsPrefixOf}
pub use Rattle.replay.specs.Prelude.{InRange, IsPrefixOfReport, IsVerdict}
unfoldable pub use Rattle.replay.specs.Prelude.{report_text, verdict_line}
pub use Rattle.show.specs.Prelude.{IsPartOfShown}
unfoldable pub use Rattle.show.specs.Prelude.{listing_text}
pub use Rattle.picture.specs.Prelude.{IsDrawn}
pub use Rattle.command_report.specs.Picturing.{HasPicture, LeavesPictured, Pictures}
pub use Rattle.command_report.specs.{Replaying.Replays, Replaying.verdict_status, Showing.Lists}
