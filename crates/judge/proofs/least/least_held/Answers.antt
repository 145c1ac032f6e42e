use Rattle.base.proofs.Public.{◌≡◌, ◌+◌, Some, length, refl, arith, iff_false, or_left, slice_get_read, slice_get}
use Rattle.slices.specs.Plans.{choices_of}
use Rattle.judge.proofs.{Lowering.continuous_met, Lowering.suspect_met, Quiet.holds_until}
use Rattle.judge.proofs.least.least_held.Goals as goal

pub returns-then-not-holds-clause-lower : goal.returns-then-not-holds-clause-lower
returns-then-not-holds-clause-lower c = record {
  suspect = suspect_met c.args.p.now.given (choices_of c.args.plan.now) c.loop-at.at c.args.c (omega (arith, c.requires.best.bounded)) c.requires.constraint.in_range (or_left _ _ c.requires.constraint.continuous) (iff_false c.holds.ensures c.if-not-holds.true);
  lower = omega arith;
}

pub returns-then-not-holds-clause-met : goal.returns-then-not-holds-clause-met
returns-then-not-holds-clause-met c = continuous_met c.args.p.now.given (choices_of c.args.plan.now) c.loop-at.at c.args.c c.loop-at.invariant

pub loop-at-preserved : goal.loop-at-preserved
loop-at-preserved c =
    let p = c.args.p.now.given in
    let found : slice_get p.constraints c.args.c ≡ Some c.index-constraints-c.result =
    slice_get_read p.constraints (length p.constraints) c.args.c c.index-constraints-c.result refl c.requires.constraint.in_range (rw c.constraints.ensures.constraints at c.index-constraints-c.is) in
    holds_until p c.args.plan.now c.requires.plan c.loop-at.at (p.horizon + 1) c.next_that_matters-at.result c.args.c c.index-constraints-c.result found c.loop-at.invariant (c.holds.ensures.0 c.if-not-holds.false) (rw c.form_of-form.ensures.form at c.next_that_matters-at.ensures)

pub returns-clause-met : goal.returns-clause-met
returns-clause-met c = continuous_met c.args.p.now.given (choices_of c.args.plan.now) c.args.best c.args.c (λ u low. c.loop-at.invariant u (omega arith))
