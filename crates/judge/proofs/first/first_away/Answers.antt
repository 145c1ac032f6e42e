use Rattle.judge.specs.Prelude.{choices_of, snapshot_at}
use Rattle.judge.proofs.Stances.{machines_more}
use Rattle.judge.proofs.first.first_away.Goals as goal

pub loop-i-preserved : goal.loop-i-preserved
loop-i-preserved c = machines_more c.args.p.now.given (snapshot_at c.args.p.now.given (choices_of c.args.plan.now) c.args.t) c.loop-i.i c.loop-i.invariant c.in_default.ensures
