use Rattle.base.proofs.Public.{arith, iff_false}
use Rattle.judge.specs.Prelude.{choices_of, snapshot_at}
use Rattle.judge.proofs.Stances.{first_off, below_more}
use Rattle.judge.proofs.first.first_off.Goals as goal

pub returns-then-is_off : goal.returns-then-is_off
returns-then-is_off c =
    first_off c.args.p.now.given (snapshot_at c.args.p.now.given (choices_of c.args.plan.now) c.args.t) c.args.v.0 c.holding_at-now.result c.args.nodes.now c.holding_at-now.ensures c.requires.nodes c.loop-i.i (omega arith) c.loop-i.invariant (c.is_off.ensures.0 c.if-is_off.true)

pub loop-i-preserved : goal.loop-i-preserved
loop-i-preserved c =
    below_more c.args.p.now.given (snapshot_at c.args.p.now.given (choices_of c.args.plan.now) c.args.t) c.args.v.0 c.holding_at-now.result c.args.nodes.now c.holding_at-now.ensures c.requires.nodes c.loop-i.i (omega arith) c.loop-i.invariant (iff_false c.is_off.ensures c.if-is_off.false)
