use Rattle.std.proofs.Common.{◌∙◌}
use Rattle.instance_make.proofs.Ruling.{vms_more}
use Rattle.instance_make.proofs.generating.machines.Goals as goal

pub loop-i-preserved : goal.loop-i-preserved
loop-i-preserved c = c.in_ok-push.ensures.items ∙ vms_more c.args.first c.loop-i.i c.loop-i.ids.items c.loop-i.invariant
