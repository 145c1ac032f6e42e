use Rattle.rule_constraint.proofs.Prelude.{narrowed_is_fewer}
use Rattle.rule_constraint.proofs.watcher.ConstraintWatcherWatcherConstraintIndex.disturb.Goals as goal

pub returns : goal.returns
returns g c = c.set_looking_dirty.ensures _ (narrowed_is_fewer c.args.p.now.given c.args.g.now c.args.change c.args._before c.args._kept.now c.requires.narrowed)
