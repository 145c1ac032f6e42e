use Rattle.std.proofs.Common.{length, ap, arith}
use Rattle.slices.specs.Plans.{choices_of}
use Rattle.judge.proofs.Lowering.{lower_trans, met_more}
use Rattle.judge.proofs.least.least_of_all.Goals as goal

pub loop-c-preserved : goal.loop-c-preserved
loop-c-preserved c =
    let plan = choices_of c.args.plan.now in
    record {
      lower = lower_trans c.args.p.now.given plan c.args.best c.loop-c.least c.least_met-least.result c.loop-c.invariant.lower c.least_met-least.ensures.lower;
      met = met_more c.args.p.now.given plan c.loop-c.least c.least_met-least.result c.loop-c.c c.least_met-least.ensures.lower.lower c.loop-c.invariant.met c.least_met-least.ensures.met;
    }

pub returns-clause-met : goal.returns-clause-met
returns-clause-met c = λ k low. c.loop-c.invariant.met k (omega (arith, ap length c.constraints-c-end.ensures.constraints))
