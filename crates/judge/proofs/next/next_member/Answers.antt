use Rattle.base.proofs.Public.{◌≡◌, ◌+◌, get_or, take, arith, take_all}
use Rattle.judge.specs.Prelude.{AreMachines, choices_of, IsMember, vm}
use Rattle.judge.proofs.Starting.{members_more, next_of_both}
use Rattle.judge.proofs.next.next_member.Goals as goal

pub loop-v-preserved : goal.loop-v-preserved
loop-v-preserved c =
    let vs = c.args.machines.now in
    let i = c.loop-v.v-index in
    next_of_both (choices_of c.args.plan.now) (AreMachines (IsMember (take i vs))) (λ x. x ≡ vm (get_or vs i (record { 0 = 0 })).0) (AreMachines (IsMember (take (i + 1) vs))) c.args.t c.args.next c.loop-v.least c.sooner-least.result (members_more vs i (record { 0 = 0 }) (omega arith)) c.loop-v.invariant c.sooner-least.ensures

pub returns : goal.returns
returns c = rw (take_all c.loop-v.v-index c.args.machines.now (omega arith)) at c.loop-v.invariant
