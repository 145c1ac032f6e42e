use Rattle.rule_load.proofs.Prelude.{narrowed_is_fewer}
use Rattle.rule_load.proofs.watcher.LoadsWatcherLoadKeeper.disturb.Goals as goal

pub set_disturbed_dirty-requires-clause-fewer : goal.set_disturbed_dirty-requires-clause-fewer
set_disturbed_dirty-requires-clause-fewer c = narrowed_is_fewer c.args.p.now.given c.args.g.now c.args.change c.args.before c.args.kept.now c.requires.narrowed
