use Rattle.closing.proofs.Prelude.{◌≢◌, ℕ, arith, IsMember, sets, StaysClear, each_member, each_more}
use Rattle.closing.proofs.quick.apart.are_apart.Goals as goal

pub returns : goal.returns
returns c =
    λ yes. record {
      each = λ v w here there. each_member (λ v. (w : ℕ) → IsMember c.args.others.now w → v ≢ w → StaysClear c.args.p.now.given (sets c.args.g.now) c.args.t v w) c.args.machines.now c.loop-i.i (omega arith) c.loop-i.invariant v here w there;
    }

pub loop-i-preserved : goal.loop-i-preserved
loop-i-preserved c =
    each_more (λ v. (w : ℕ) → IsMember c.args.others.now w → v ≢ w → StaysClear c.args.p.now.given (sets c.args.g.now) c.args.t v w) c.args.machines.now c.loop-i.i _ c.loop-i-test.true c.loop-i.invariant
    (c.keeps_clear.ensures c.if-not-keeps_clear.false)
