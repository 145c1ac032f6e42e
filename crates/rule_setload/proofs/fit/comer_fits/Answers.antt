use Rattle.rule_setload.proofs.Prelude.{rules, has_node, sets}
use Rattle.rule_setload.proofs.FitLemmas.{late_fits}
use Rattle.rule_setload.proofs.fit.comer_fits.Goals as goal

pub returns : goal.returns
returns c = λ on.
    late_fits c.args.p.now.given (sets c.args.g.now) c.args.bound.now.weight (has_node c.args.bound.now.nodes) c.args.x c.args.p.now.sound c.requires.period c.args.v.0 c.args.spare c.requires.none c.domain-domain.result.now c.rows.result.now (search rules) c.rows.ensures.items c.rows.ensures.climbs (c.are_late.ensures on)
