use Rattle.std.proofs.Common.{◌∙◌}
use Rattle.partition.proofs.ReachLemmas.{fold_lists}
use Rattle.partition.proofs.reach.and_all.Goals as goal

pub returns : goal.returns
returns c = c.and_lists.ensures ∙ fold_lists c.args.table.now c.args.reach c.args.lists.now
