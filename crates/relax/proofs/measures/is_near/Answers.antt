use Rattle.relax.proofs.{Prelude.◌∙◌, Prelude.sym, Prelude.nodes_of, AwayLemmas.away}
use Rattle.relax.proofs.measures.is_near.Goals as goal

pub returns-else-is_hosted : goal.returns-else-is_hosted
returns-else-is_hosted c =
    λ e w t. away c.args.p.now.given c.args.v.0 w (nodes_of c.args.p.now.given c.args.area.now) t c.args.c (sym c.is_hosted.ensures ∙ c.if-is_hosted.false) (sym c.goes_in.ensures ∙ e)
