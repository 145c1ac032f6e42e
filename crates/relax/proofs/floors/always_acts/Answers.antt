use Rattle.relax.proofs.Prelude.{◌-◌, ◌<◌, ◌≤◌, ◌∙◌, inl, inr, length, get_or, sym, arith, nat_tests, no_row, node_count, place_index}
use Rattle.relax.proofs.FloorLemmas.{place_acts}
use Rattle.relax.proofs.floors.always_acts.Goals as goal

pub returns-then-may_act : goal.returns-then-may_act
returns-then-may_act c =
    let some : 1 ≤ length c.rows-rows.result.now = grind (arith, nat_tests) in
    let low : 0 < place_index (get_or c.rows-rows.result.now 0 no_row).place = rw c.first_place.ensures at (c.is_between.ensures.first c.if-not-is_between.false) in
    let high : place_index (get_or c.rows-rows.result.now (length c.rows-rows.result.now - 1) no_row).place ≤ node_count c.args.p.now.given = rw c.last_place.ensures at (c.is_between.ensures.last c.if-not-is_between.false) in
    let there : 1 ≤ length c.args.domain.now.rows = rw c.rows-rows.ensures.items at some in
    λ _. place_acts c.args.p.now.given c.args.v.0 c.args.host c.args.domain.now (length c.args.domain.now.rows - 1) no_row no_row c.requires.runs c.requires.to_run c.requires.climbs (omega arith) (rw c.rows-rows.ensures.items at low) (rw c.rows-rows.ensures.items at high) (inl (sym c.may_act.ensures ∙ c.if-may_act.true))

pub returns : goal.returns
returns c =
    let some : 1 ≤ length c.rows-rows.result.now = grind (arith, nat_tests) in
    let low : 0 < place_index (get_or c.rows-rows.result.now 0 no_row).place = rw c.first_place.ensures at (c.is_between.ensures.first c.if-not-is_between.false) in
    let high : place_index (get_or c.rows-rows.result.now (length c.rows-rows.result.now - 1) no_row).place ≤ node_count c.args.p.now.given = rw c.last_place.ensures at (c.is_between.ensures.last c.if-not-is_between.false) in
    let there : 1 ≤ length c.args.domain.now.rows = rw c.rows-rows.ensures.items at some in
    λ t. place_acts c.args.p.now.given c.args.v.0 c.args.host c.args.domain.now (length c.args.domain.now.rows - 1) no_row no_row c.requires.runs c.requires.to_run c.requires.climbs (omega arith) (rw c.rows-rows.ensures.items at low) (rw c.rows-rows.ensures.items at high) (inr (rw c.rows-rows.ensures.items at (c.has_no_row.ensures t)))
