use Rattle.base.proofs.Public.{◌++◌, ◌∙◌, List, ap, sym}
use Rattle.part_solver.specs.Solved.{SolvedText}
use Rattle.part_solver.proofs.SolvedLemmas.{next_has_plan}
use Rattle.part_solver.proofs.answering.plans_of.Goals as goal

pub into_plan-requires : goal.into_plan-requires
into_plan-requires c =
    let at = c.loop-part in
    next_has_plan c.args.solved.items at.yielded c.in-Some.part _ (ap (λ (l : List SolvedText). at.yielded ++ l) (sym c.in-Some.ensures.steps.0) ∙ at.invariant.whole) c.requires
