use Rattle.reasons.proofs.Public.{end_is_choice}
use Rattle.std.proofs.Common.{◌-◌}
use Rattle.base.proofs.Public.{ℕ, ◌<◌, ◌≤◌, length, slice_index_or, arith, nat_tests}
use Rattle.machine_bounds.specs.Prelude.{Act, Choice, choices, no_row}
use Rattle.machine_bounds.proofs.LeavingLemmas.{row_end}
use Rattle.machine_bounds.proofs.leaving.may_leave_by.Goals as goal

pub returns-then-value-by : goal.returns-then-value-by
returns-then-value-by c = λ _.
    let k : ℕ = length c.rows-rows.result.now - 1 - c.loop-i.i in
    let start : Choice = Act (slice_index_or c.rows-rows.result.now k no_row).place (slice_index_or c.rows-rows.result.now k no_row).lo in
    let low : c.value.result ≤ c.args.by = grind (arith, nat_tests, c.if-value-by.true) in
    let there : k < length c.rows-rows.result.now = omega (arith, c.loop-i-test.true) in
    (start, end_is_choice (choices c.args.domain.now) start (row_end c.args.domain.now c.rows-rows.result.now k c.rows-rows.ensures.items c.rows-rows.ensures.climbs there), rw c.value.ensures at low)
