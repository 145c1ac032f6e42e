-- What is proved of answers.
use Rattle.std.specs.Prelude.{ℕ, List}
use Rattle.cluster.specs.declared.sets.NodeSet.{NodeSet}
use Rattle.partition.specs.Prelude.{Split}
use Rattle.solver.specs.Prelude.{Instance}
use Rattle.part_solver.specs.declared.answer.WholeAnswer.{WholeAnswer}
use Rattle.part_solver.specs.Answers.{IsAnswered, IsTrueOfWhole}

-- what is answered by solved parts is so of all plans of the whole
abbrev pub AnsweredIsTrue : Type 0
AnsweredIsTrue =
    (p : Instance) (groups : List NodeSet) → Split p groups → (budget : ℕ) (whole : WholeAnswer) (text : List ℕ) → IsAnswered p groups budget whole text → IsTrueOfWhole p whole
