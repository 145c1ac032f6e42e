-- What is cited together of this crate and of those below it, passed on from one place. Declares nothing.
pub use Rattle.command_frame.specs.Prelude.{AreTextsCut, bytes_of, CountsWrites, Files, HasTexts, Instance, instance_in, IsOfWriting, LeavesBy, max_text_bytes, outside, Outside, PartCauses, PlanChoices, WriteCauses}
pub use Rattle.command_frame.specs.declared.{fault.Ending.Ending, fault.Fault.Fault, status.Status.Status}
unfoldable pub use Rattle.command_frame.specs.Prelude.{AnswersFrom, Ends, instance_of}
unfoldable pub use Rattle.instance_make.specs.Prelude.{instance_text}
pub use Rattle.search.specs.Prelude.{IsInstance, IsValidPlan}
pub use Rattle.solver.specs.Prelude.{plan_cost}
pub use Rattle.explain.specs.Prelude.{AreNumbers, IsCore, IsLeftOpen}
unfoldable pub use Rattle.explain.specs.Prelude.{sub}
unfoldable pub use Rattle.command_explain.specs.Explaining.{core_lines, feasible_line, IsExplained, needed_lines, open_line}
pub use Rattle.command_explain.specs.Explaining.{LeavesExplained, needed_line, SaysCore, SaysFeasible, SaysOpen, WritesKept}
