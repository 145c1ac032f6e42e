use Rattle.relax.proofs.Prelude.{ap, sym, ◌∙◌, action_at, is_above_none, seen, sure, vm, surely_by_least}
use Rattle.relax.proofs.sure.surely_so_far.Goals as goal

pub returns : goal.returns
unfolding sure
returns c = c.is_above.ensures ∙ ap is_above_none c.lowest_seen.ensures ∙ sym (surely_by_least (action_at c.args.p.now.given c.args.v.0 c.args.far c.args.t) (seen c.args.view.now.region.now c.args.view.now.lens (vm c.args.v.0)))
