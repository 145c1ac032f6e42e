-- What is cited together of this crate and of those below it, passed on from one place. Declares nothing.
pub use Rattle.part_solver.specs.declared.answer.WholeAnswer.{WholeAnswer}
pub use Rattle.part_solver.specs.Solved.{are_optimal, AreSolved, first_infeasible, first_without_plan, found_best, found_none, has_no_plan, HasEnded, is_infeasible, is_optimal, IsSolved, no_text, plan_of, plans_of, solved_at, SolvedText, WereSolved}
pub use Rattle.part_solver.specs.Answers.{all_sections, IsAnswered, IsSaid, IsTrueOfWhole, plan_answered, section_at, sections_of, text_of}
pub use Rattle.part_solver.specs.Laws.{AnsweredIsTrue}
