use Rattle.standings.proofs.Prelude.{◌≡◌, Some, None, refl, sym, subst, ◌∙◌, slice_index_or, Climbs, no_row}
use Rattle.standings.proofs.RowLemmas.{come_at, come_one, come_two}
use Rattle.standings.proofs.numbers.come.Goals as goal

pub returns-in-Nowhere : goal.returns-in-Nowhere
returns-in-Nowhere c =
    let row = slice_index_or c.rows.result.now 0 no_row in
    let none : come_at row.place row.hi ≡ None = rw c.in-Nowhere.is refl in
    come_one c.args.domain.now c.rows.result.now no_row None (subst (λ rows. Climbs 0 rows) c.rows.ensures.items c.rows.ensures.climbs) (sym c.idle.ensures ∙ c.if-idle.false) c.rows.ensures.items c.in-len1.len_at_least c.in-len1.len_below none

pub returns-in-At : goal.returns-in-At
returns-in-At c =
    let row = slice_index_or c.rows.result.now 0 no_row in
    let some : come_at row.place row.hi ≡ Some (record { node = c.in-At.node; last = row.hi }) = rw c.in-At.is refl in
    come_one c.args.domain.now c.rows.result.now no_row (Some (record { node = c.in-At.node; last = row.hi })) (subst (λ rows. Climbs 0 rows) c.rows.ensures.items c.rows.ensures.climbs) (sym c.idle.ensures ∙ c.if-idle.false) c.rows.ensures.items c.in-len1.len_at_least c.in-len1.len_below some

pub returns-in_default-2 : goal.returns-in_default-2
returns-in_default-2 c = come_two c.args.domain.now c.rows.result.now (subst (λ rows. Climbs 0 rows) c.rows.ensures.items c.rows.ensures.climbs) (sym c.idle.ensures ∙ c.if-idle.false) c.rows.ensures.items c.in_default.len_at_least
