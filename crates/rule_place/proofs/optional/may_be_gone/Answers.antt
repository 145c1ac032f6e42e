use Rattle.rule_place.proofs.Prelude.{slice_index_or, Act, choices, no_row, end_is_choice, row_end}
use Rattle.rule_place.proofs.optional.may_be_gone.Goals as goal

pub returns-then-is_gone : goal.returns-then-is_gone
returns-then-is_gone c =
    λ yes. let row = slice_index_or c.rows-rows.result.now c.loop-i.i no_row in (
      Act row.place row.lo,
      rw (← c.domain-domain.ensures.domain)
          (end_is_choice (choices c.domain-domain.result.now) (Act row.place row.lo) (row_end c.domain-domain.result.now c.rows-rows.result.now c.loop-i.i c.rows-rows.ensures.items c.rows-rows.ensures.climbs c.loop-i-test.true)),
      c.is_gone.ensures c.if-is_gone.true,
    )
