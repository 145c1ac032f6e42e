use Rattle.rule_setload.proofs.Prelude.{◌+◌, arith, has_node}
use Rattle.rule_setload.proofs.HoldLemmas.{is_share}
use Rattle.rule_setload.proofs.holding.share.Goals as goal

pub returns-clause-share : goal.returns-clause-share
returns-clause-share c = is_share c.args.p.now.given c.args.p.now.sound c.args.bound.now.weight (has_node c.args.bound.now.nodes) c.args.v.0 c.args.x c.requires.period c.args.c c.args.stays c.kept.result c.brought.result (c.kept.result + c.brought.result) c.requires.stays c.kept.ensures.kept c.brought.ensures.brought (omega arith)
