use Rattle.relax.proofs.Prelude.{ap, sym, ◌∙◌, is_nought, node, seen, sure, usable_at, may_by_least}
use Rattle.relax.proofs.sure.may_be_usable.Goals as goal

pub returns : goal.returns
unfolding sure
returns c = c.is_zero.ensures ∙ ap is_nought c.lowest_seen.ensures ∙ sym (may_by_least (usable_at c.args.p.now.given c.args.n.0 c.args.t) (seen c.args.view.now.region.now c.args.view.now.lens (node c.args.n.0)))
