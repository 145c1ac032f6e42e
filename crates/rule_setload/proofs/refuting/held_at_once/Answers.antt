use Rattle.rule_setload.proofs.Prelude.{rules, arith, has_node, sets}
use Rattle.rule_setload.specs.Prelude.{seen}
use Rattle.rule_setload.proofs.OverLemmas.{same_held}
use Rattle.rule_setload.proofs.refuting.held_at_once.Goals as goal

pub returns-clause-held : goal.returns-clause-held
returns-clause-held c =
    same_held c.args.p.now.given (seen c.args.view.now.region.now c.args.view.now.lens) (sets c.args.view.now.region.now) c.args.bound.now.weight (has_node c.args.bound.now.nodes) c.args.v.0 c.args.t c.still_kept.result
    (c.is_narrowed.ensures (search rules) c.args.view.now.region.now) (c.still_kept.ensures.least.each c.args.t (omega arith, omega arith))
