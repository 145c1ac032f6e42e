use Rattle.rule_group.proofs.Prelude.{arith, each_member, each_more, ◌≢◌, ℕ}
use Rattle.rule_group.specs.Prelude.{IsClearOf, IsMember, sets, VmId}
use Rattle.rule_group.proofs.in_turn.act_alone.Goals as goal

pub loop-i-preserved : goal.loop-i-preserved
loop-i-preserved c =
    let none : VmId = record { 0 = 0 } in
    each_more (λ v. (w : ℕ) → IsMember c.args.machines.now w → w ≢ v → IsClearOf c.args.p.now.given (sets c.args.g.now) v w) c.args.machines.now c.loop-i.i none c.loop-i-test.true c.loop-i.invariant
    (c.acts_alone.ensures c.if-not-acts_alone.false)

pub returns : goal.returns
returns c =
    λ yes. each_member (λ v. (w : ℕ) → IsMember c.args.machines.now w → w ≢ v → IsClearOf c.args.p.now.given (sets c.args.g.now) v w) c.args.machines.now c.loop-i.i (omega arith) c.loop-i.invariant
