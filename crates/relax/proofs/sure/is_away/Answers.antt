use Rattle.relax.proofs.Prelude.{◌∙◌, sym, nodes_of, seen, vm}
use Rattle.relax.proofs.AwayLemmas.{away_least}
use Rattle.relax.proofs.sure.is_away.Goals as goal

pub returns : goal.returns
returns c =
    λ t w i.
    let one = c.may_stay_out.ensures t in
    away_least c.args.p.now.given c.args.v.0 w (nodes_of c.args.p.now.given c.args.area.now) i (seen c.args.view.now.region.now c.args.view.now.lens (vm c.args.v.0)) one.0 (sym c.is_hosted.ensures ∙ c.if-is_hosted.false) one.1 one.2
