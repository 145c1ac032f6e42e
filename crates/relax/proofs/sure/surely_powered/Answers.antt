use Rattle.relax.proofs.Prelude.{ap, sym, ◌∙◌, is_above_none, node, powered_at, seen, sure, surely_by_least}
use Rattle.relax.proofs.sure.surely_powered.Goals as goal

pub returns : goal.returns
unfolding sure
returns c = c.is_above.ensures ∙ ap is_above_none c.lowest_seen.ensures ∙ sym (surely_by_least (powered_at c.args.p.now.given c.args.n.0 c.args.t) (seen c.args.view.now.region.now c.args.view.now.lens (node c.args.n.0)))
