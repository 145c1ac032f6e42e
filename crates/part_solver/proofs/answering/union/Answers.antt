use Rattle.base.proofs.Public.{◌∙◌, List, subst, sym}
use Rattle.slices.specs.Plans.{PlanChoices}
use Rattle.partition.specs.Prelude.{ArePartPlans}
use Rattle.part_solver.proofs.AnswerLemmas.{are_part_plans}
use Rattle.part_solver.proofs.answering.union.Goals as goal

pub union-requires-clause-plans : goal.union-requires-clause-plans
union-requires-clause-plans c =
    subst (λ (plans : List PlanChoices). ArePartPlans c.args.p.now.given c.args.groups.now plans) (sym (c.deref.ensures.value ∙ c.in_ok-plans.ensures))
    (are_part_plans c.args.p.now.given c.args.groups.now c.requires.solved.0 c.args.solved.items c.requires.solved.1 c.requires.plans)
