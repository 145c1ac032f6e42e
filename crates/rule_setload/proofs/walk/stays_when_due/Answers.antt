use Rattle.rule_setload.proofs.Prelude.{rules, has_node, sets}
use Rattle.rule_setload.proofs.FitLemmas.{due_always, due_last}
use Rattle.rule_setload.proofs.walk.stays_when_due.Goals as goal

pub returns-then-always : goal.returns-then-always
returns-then-always c = λ on. due_always c.args.p.now.given (sets c.args.g.now) c.args.bound.now.weight (has_node c.args.bound.now.nodes) c.args.bound.now.amount c.args.always (c.stays_always.ensures on)

pub returns : goal.returns
returns c = λ on. due_last c.args.p.now.given (sets c.args.g.now) c.args.bound.now.weight (has_node c.args.bound.now.nodes) c.args.bound.now.amount c.args.always (search rules) (c.stays_last.ensures on)
