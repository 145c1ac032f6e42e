use Rattle.relax.proofs.Prelude.{ap, sym, ◌∙◌, held_at, is_above_none, nodes_of, Presence, seen, sure, vm}
use Rattle.relax.proofs.LeastLemmas.{surely_positive}
use Rattle.relax.proofs.sure.surely_in.Goals as goal

pub returns : goal.returns
unfolding sure
returns c = c.is_above.ensures ∙ ap is_above_none c.lowest_seen.ensures ∙ sym (surely_positive (held_at c.args.p.now.given c.args.v.0 Presence (nodes_of c.args.p.now.given c.args.area.now) c.args.t) (seen c.args.view.now.region.now c.args.view.now.lens (vm c.args.v.0)))
