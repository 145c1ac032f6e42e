use Rattle.base.proofs.Public.{arith, eq-eqb, iff_false, or_right}
use Rattle.slices.specs.Plans.{choices_of}
use Rattle.judge.proofs.Lowering.{discrete_met, suspect_met}
use Rattle.judge.proofs.least.least_at_end.Goals.{else-horizon-best-via-then-horizon-best+else-not-holds, else-horizon-best-via-else-horizon-best}
use Rattle.judge.proofs.least.least_at_end.Goals as goal

pub returns-then-not-holds-clause-lower : goal.returns-then-not-holds-clause-lower
returns-then-not-holds-clause-lower c = record {
  suspect = suspect_met c.args.p.now.given (choices_of c.args.plan.now) c.horizon-horizon.result c.args.c (omega (arith, c.horizon-horizon.ensures.horizon)) c.requires.constraint (or_right _ _ (eq-eqb c.horizon-horizon.result c.args.p.now.given.horizon c.horizon-horizon.ensures.horizon)) (iff_false c.holds.ensures c.if-not-holds.true);
  lower = omega arith;
}

pub returns-then-not-holds-clause-met : goal.returns-then-not-holds-clause-met
returns-then-not-holds-clause-met c =
    discrete_met c.args.p.now.given (choices_of c.args.plan.now) c.horizon-horizon.result c.args.c c.requires.discrete (λ low. absurd (omega (arith, c.horizon-horizon.ensures.horizon)))

pub returns-else-horizon-best-clause-met : goal.returns-else-horizon-best-clause-met
returns-else-horizon-best-clause-met c =
    discrete_met c.args.p.now.given (choices_of c.args.plan.now) c.args.best c.args.c c.requires.discrete (λ low. elim c.else-horizon-best.branch [
      | else-horizon-best-via-then-horizon-best+else-not-holds w ↦ rw c.horizon-horizon.ensures.horizon at (w.holds.ensures.0 w.if-not-holds.false)
      | else-horizon-best-via-else-horizon-best w ↦ absurd (omega (arith, c.horizon-horizon.ensures.horizon))
    ])
