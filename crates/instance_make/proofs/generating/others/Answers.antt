use Rattle.std.proofs.Common.{◌==◌, not}
use Rattle.instance_make.proofs.Ruling.{others_more}
use Rattle.instance_make.proofs.generating.others.Goals as goal

pub loop-n-preserved : goal.loop-n-preserved
loop-n-preserved c = others_more (λ n. not (n == c.args.k)) c.loop-n.n c.loop-n.set c.insert_other.new.set c.loop-n.invariant c.insert_other.ensures
