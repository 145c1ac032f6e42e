use Rattle.rule_setload.proofs.HolderLemmas.{next_holder}
use Rattle.rule_setload.proofs.holders.put.Goals as goal

pub returns-in_ok-push : goal.returns-in_ok-push
returns-in_ok-push c = rw c.in_ok-push.ensures.items (next_holder c.args._p.now.given c.args._bound.now c.args.list.now.items (record { machine = c.args.machine; amount = c.args.amount }) c.requires.before c.requires.kept)
