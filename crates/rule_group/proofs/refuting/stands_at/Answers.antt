use Rattle.rule_group.proofs.Prelude.{sym, ◌∙◌}
use Rattle.rule_group.specs.Prelude.{seen}
use Rattle.rule_group.proofs.ScatteredLemmas.{stands_there}
use Rattle.rule_group.proofs.refuting.stands_at.Goals as goal

pub returns : goal.returns
returns c =
    λ yes. stands_there c.args.p.now.given (seen c.args.view.now.region.now c.args.view.now.lens) c.args.v.0 c.args.t c.args.spots c.nodes_at.result c.nodes_at.ensures (sym c.surely_in.ensures ∙ yes)
