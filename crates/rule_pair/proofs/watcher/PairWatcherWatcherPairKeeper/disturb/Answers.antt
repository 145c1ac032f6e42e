use Rattle.rule_pair.proofs.Prelude.{narrowed_is_fewer}
use Rattle.rule_pair.proofs.watcher.PairWatcherWatcherPairKeeper.disturb.Goals as goal

pub set_moved_dirty-requires-clause-fewer : goal.set_moved_dirty-requires-clause-fewer
set_moved_dirty-requires-clause-fewer c = narrowed_is_fewer c.args.p.now.given c.args.g.now c.args.change c.args.before c.args.kept.now c.requires.narrowed
