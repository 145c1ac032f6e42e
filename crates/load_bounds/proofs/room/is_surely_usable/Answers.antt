use Rattle.load_bounds.proofs.Prelude.{sym, ap, ◌∙◌, is_above_none, node, sets, usable_at, surely_by_least}
use Rattle.load_bounds.proofs.room.is_surely_usable.Goals as goal

pub returns : goal.returns
returns c = c.is_above.ensures ∙ ap is_above_none c.lowest_seen.ensures ∙ sym (surely_by_least (usable_at c.args.p.now.given c.args.n.0 c.args.t) (sets c.args.g.now (node c.args.n.0)))
