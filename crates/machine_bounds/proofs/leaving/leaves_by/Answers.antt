use Rattle.base.proofs.Public.{◌∙◌, sym, arith}
use Rattle.machine_bounds.proofs.LeavingLemmas.{ends_left}
use Rattle.machine_bounds.proofs.leaving.leaves_by.Goals as goal

pub returns : goal.returns
returns c =
    λ yes. ends_left c.args.p.now.given c.args.v.0 c.args.t c.args.domain.now c.rows-rows.result.now c.rows-rows.ensures.items c.rows-rows.ensures.climbs (sym c.idle.ensures ∙ c.if-idle.false)
    (λ i h. c.loop-i.invariant i (omega (arith, h)))
