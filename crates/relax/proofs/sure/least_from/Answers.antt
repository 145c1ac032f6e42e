use Rattle.relax.proofs.Prelude.{◌∙◌, ap, unwrap_or, held_at, nodes_of, seen, vm}
use Rattle.relax.proofs.FloorLemmas.{least_from}
use Rattle.relax.proofs.sure.least_from.Goals as goal

pub returns : goal.returns
returns c =
    let h = c.args.held in
    c.unwrap_or-2.ensures
    ∙ ap (λ o. unwrap_or o 0) (c.lowest_seen-2.ensures ∙ least_from (held_at h.problem.now.given h.machine.0 h.weight (nodes_of h.problem.now.given h.area.now) h.at) c.args.floor (seen c.args.view.now.region.now c.args.view.now.lens (vm c.args.v.0)) c.requires.floor)
