use Rattle.quick_checks.proofs.Prelude.{arith, ltb-true, seen, sure}
use Rattle.quick_checks.proofs.ScatteredLemmas.{more_outside, sets_scattered}
use Rattle.quick_checks.proofs.scattered.are_outside.Goals as goal

pub loop-group-preserved : goal.loop-group-preserved
loop-group-preserved c =
    more_outside (sure c.args.p.now.given (seen c.args.view.now.region.now c.args.view.now.lens) c.args.t) c.args.machines.now c.args.groups.now c.loop-group.group-index c.group-item.result (omega arith) c.group-item.is (c.has_one_in.ensures c.if-not-has_one_in.false) c.loop-group.invariant

pub returns : goal.returns
returns c =
    λ yes. sets_scattered (sure c.args.p.now.given (seen c.args.view.now.region.now c.args.view.now.lens) c.args.t) c.args.machines.now c.args.groups.now (omega (arith, ltb-true _ _ yes)) (λ k d l. c.loop-group.invariant k d (omega arith))
