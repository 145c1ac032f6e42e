-- What is cited together of this crate and of those below it, passed on from one place. Declares nothing.
pub use Rattle.partition.specs.Prelude.{IsSplitBy}
pub use Rattle.cert_check.specs.Prelude.{IsOutside}
pub use Rattle.part_check.specs.Verdicts.{AllSayYes, AreAllParts, AreWanted, GivesOfParts, goal_of_all, HasSections, is_infeasible_goal, is_optimal_goal, IsChecked, IsOnePart, IsSoundOfWhole, MachineLeaves, SaysYes, SectionGives, SectionsGive, StopsAt, TextGives}
pub use Rattle.part_check.specs.declared.verdict.{PartsFault.PartsFault, PartsFault.TheVariants.Line, PartsFault.TheVariants.Memory}
pub use Rattle.part_check.specs.declared.verdict.{PartsVerdict.PartsVerdict, PartsVerdict.TheVariants.No, PartsVerdict.TheVariants.NoSections, PartsVerdict.TheVariants.Yes}
pub use Rattle.part_check.specs.declared.verdict.{WholeGoal.WholeGoal, WholeGoal.TheVariants.Infeasible, WholeGoal.TheVariants.Optimal, WholeGoal.TheVariants.Undecided}
