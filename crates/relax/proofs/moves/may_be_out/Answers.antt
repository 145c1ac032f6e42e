use Rattle.relax.proofs.Prelude.{◌∙◌, sym, nodes_of, seen, vm}
use Rattle.relax.proofs.MoveLemmas.{left_least}
use Rattle.relax.proofs.moves.may_be_out.Goals as goal

pub returns : goal.returns
returns c =
    λ t w.
    let one = c.may_be_over.ensures t in
    left_least c.args.p.now.given c.args.v.0 w c.args.host (nodes_of c.args.p.now.given c.args.area.now) c.args.t one.0 one.1 (seen c.args.view.now.region.now c.args.view.now.lens (vm c.args.v.0)) c.requires.runs (c.is_to_run.ensures c.if-not-is_to_run.false c.args.host c.requires.runs) (sym c.has.ensures ∙ c.if-not-has.false) one.2 one.3 one.4
