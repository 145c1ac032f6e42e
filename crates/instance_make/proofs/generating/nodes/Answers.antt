use Rattle.instance_make.proofs.Ruling.{set_more}
use Rattle.instance_make.proofs.generating.nodes.Goals as goal

pub loop-n-preserved : goal.loop-n-preserved
loop-n-preserved c = set_more c.args.first c.loop-n.n c.loop-n.set c.insert.new.self c.loop-n.invariant c.insert.ensures.set
