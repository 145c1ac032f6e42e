-- What is cited together of this crate and of those below it, passed on from one place. Declares nothing.
pub use Rattle.command_frame.specs.Prelude.{bytes_of, Files, Instance, instance_in, IsOfReading, IsPlanOf, lined, OnlyReads, out_fault, Outside, outside, outcome_status, PartCauses, PlanChoices, printed_with, Reads}
pub use Rattle.command_frame.specs.declared.{fault.Ending.Ending, fault.Fault.Fault, status.Status.Status}
pub use Rattle.plan_io.specs.declared.faults.OutFault.{OutFault}
unfoldable pub use Rattle.command_frame.specs.Prelude.{Ends, instance_of, reading_of}
unfoldable pub use Rattle.instance_make.specs.Prelude.{generated, instance_text}
pub use Rattle.search.specs.Prelude.{IsTrueOf}
pub use Rattle.search.specs.declared.found.Found.{Found, TheVariants.Infeasible, TheVariants.Optimal, TheVariants.Undecided}
pub use Rattle.solver.specs.Prelude.{plan_cost}
pub use Rattle.command_make.specs.Prelude.{HasGenerated, LeavesGenerated}
pub use Rattle.command_decide.specs.Prelude.{IsChecked, IsWritten, LeavesPlanned}
pub use Rattle.command_demo.specs.Demonstrating.{demo_certificate, demo_decisions, demo_instance, demo_plan, HasAnswer, IsConcluded, IsDemonstrated, IsPlannedAndChecked, LeavesDemo, LeavesDemoUnread, optimal_line, unsettled_line}
unfoldable pub use Rattle.command_demo.specs.Demonstrating.{SaysDemo}
