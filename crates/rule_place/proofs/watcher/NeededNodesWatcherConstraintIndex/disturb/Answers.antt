use Rattle.rule_frame.proofs.Public.{narrowed_is_fewer}
use Rattle.rule_place.proofs.watcher.NeededNodesWatcherConstraintIndex.disturb.Goals as goal

pub set_nodes_dirty-requires-clause-fewer : goal.set_nodes_dirty-requires-clause-fewer
set_nodes_dirty-requires-clause-fewer c = narrowed_is_fewer c.args.p.now.given c.args.g.now c.args.change c.args.before c.args.kept.now c.requires.narrowed
