use Rattle.relax.proofs.{Prelude.arith, Prelude.ltb-true, Prelude.seen, Prelude.sure, MemberLemmas.more_outside, MemberLemmas.sets_not_scattered, MemberLemmas.sets_scattered}
use Rattle.relax.proofs.groups.are_outside.Goals as goal

pub returns-in-None-clause-no : goal.returns-in-None-clause-no
returns-in-None-clause-no c =
    λ _. sets_not_scattered (sure c.args.p.now.given (seen c.args.view.now.region.now c.args.view.now.lens) c.args.t) c.args.machines.now c.args.groups.now c.loop-group.group-index c.group-item.result (omega arith) c.group-item.is c.in-None.ensures.none

pub loop-group-preserved : goal.loop-group-preserved
loop-group-preserved c =
    more_outside (sure c.args.p.now.given (seen c.args.view.now.region.now c.args.view.now.lens) c.args.t) c.args.machines.now c.args.groups.now c.loop-group.group-index c.group-item.result (omega arith) c.group-item.is c.in-Some.ensures.some c.loop-group.invariant

pub returns-clause-yes : goal.returns-clause-yes
returns-clause-yes c =
    λ t. sets_scattered (sure c.args.p.now.given (seen c.args.view.now.region.now c.args.view.now.lens) c.args.t) c.args.machines.now c.args.groups.now (omega (arith, ltb-true _ _ t)) (λ k d l. c.loop-group.invariant k d (omega arith))
