use Rattle.std.proofs.Common.{length, ap, arith}
use Rattle.slices.specs.Plans.{choices_of}
use Rattle.judge.proofs.Lowering.{constraints_more}
use Rattle.judge.proofs.first.first_unmet.Goals as goal

pub loop-i-preserved : goal.loop-i-preserved
loop-i-preserved c = constraints_more c.args.p.now.given (choices_of c.args.plan.now) c.args.t c.loop-i.i c.loop-i.invariant (c.is_unmet.ensures.met c.if-is_unmet.false)

pub returns : goal.returns
returns c = λ k low. c.loop-i.invariant k (omega (arith, ap length c.constraints-i-end.ensures.constraints))
