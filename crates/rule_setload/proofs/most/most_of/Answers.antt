use Rattle.rule_setload.proofs.Prelude.{sym, ◌∙◌, has_node, sets}
use Rattle.rule_setload.proofs.AsideLemmas.{aside_holds}
use Rattle.rule_setload.proofs.most.most_of.Goals as goal

pub returns-clause-most : goal.returns-clause-most
returns-clause-most c =
    aside_holds c.args.p.now.given (sets c.args.g.now) c.args.bound.now.weight (has_node c.args.bound.now.nodes) c.args.v.0 c.args.x c.requires.period
    (c.requires.members.others c.args.v.0 c.requires.machine (sym c.has.ensures ∙ c.if-has.false))
