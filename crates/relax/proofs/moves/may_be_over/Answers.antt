use Rattle.relax.proofs.Prelude.{get_or, Contains, Act, choices, no_row}
use Rattle.relax.proofs.AwayLemmas.{start_in}
use Rattle.relax.proofs.moves.may_be_over.Goals as goal

pub returns-in-All : goal.returns-in-All
returns-in-All c =
    λ t.
    let out = rw (c.rows.ensures.items, c.move_time.ensures.time) at (c.is_out_by.ensures.yes t) in
    let rows = c.domain.result.now.rows in
    let there : Contains (choices c.domain.result.now) (Act (get_or rows out.0 no_row).place (get_or rows out.0 no_row).lo) = start_in c.domain.result.now out.0 no_row c.domain.ensures.climbs out.1 in
    ((get_or rows out.0 no_row).place, (get_or rows out.0 no_row).lo, rw (c.in-All.ensures.seen c.args.view.now.region.now, ← c.domain.ensures.domain) there, out.2, out.3)
