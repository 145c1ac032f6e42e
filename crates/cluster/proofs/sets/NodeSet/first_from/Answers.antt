use Rattle.std.proofs.Common.{arith}
use Rattle.cluster.proofs.SetLemmas.{first-here, none-next, within-end}
use Rattle.cluster.proofs.sets.NodeSet.first_from.Goals as goal

pub returns-in-Some : goal.returns-in-Some
returns-in-Some c =
    first-here c.args.self.now c.args.from c.loop-place.place c.in-Some.bit (rw (← c.saturating_sub.ensures) c.in-Some.ensures) c.loop-place.invariant

pub loop-place-preserved : goal.loop-place-preserved
loop-place-preserved c =
    none-next c.args.self.now c.args.from c.loop-place.place (rw (← c.saturating_sub.ensures) c.in_default.ensures) c.loop-place.invariant

pub returns : goal.returns
returns c = within-end c.args.self.now c.args.from (λ m le lt. c.loop-place.invariant m le (omega (arith, lt)))
