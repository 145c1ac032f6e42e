use Rattle.relax.proofs.OneNodeLemmas.{first_out}
use Rattle.relax.proofs.one_node.may_stay_out.Goals as goal

pub returns-in-len1-up : goal.returns-in-len1-up
returns-in-len1-up c = first_out c.args.domain.now c.rows.result.now _ c.args.n.0 c.is_at.result c.requires c.rows.ensures.items c.in-len1-up.len_at_least c.is_at.ensures
