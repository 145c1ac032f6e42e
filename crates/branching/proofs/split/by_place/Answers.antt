use Rattle.std.proofs.Common.{sym, ◌∙◌, ◌<◌, length}
use Rattle.branching.proofs.SplitLemmas.{has_row, several, splits_first, splits_idle, splits_whole}
use Rattle.branching.proofs.split.by_place.Goals as goal

pub returns-then-idle : goal.returns-then-idle
returns-then-idle c =
    splits_idle c.args.domain.now (rw c.rows-rows.ensures.items at c.rows-rows.ensures.climbs) (sym c.idle.ensures ∙ c.if-idle.true) (has_row c.args.domain.now c.requires.open)

pub returns-then-rows-eq1 : goal.returns-then-rows-eq1
returns-then-rows-eq1 c =
    rw c.rows-rows.ensures.items
    (splits_first c.args.domain.now (rw c.rows-rows.ensures.items at c.rows-rows.ensures.climbs) c.requires.open (sym c.idle.ensures ∙ c.if-idle.false) c.soonest.result (rw c.rows-rows.ensures.items at c.soonest.ensures.within))

pub returns-else-rows-eq1 : goal.returns-else-rows-eq1
returns-else-rows-eq1 c =
    let rows : 1 < length c.args.domain.now.rows = several (length c.args.domain.now.rows) (has_row c.args.domain.now c.requires.open) (rw c.rows-rows.ensures.items at c.if-rows-eq1.false) in
    rw c.rows-rows.ensures.items
    (splits_whole c.args.domain.now (rw c.rows-rows.ensures.items at c.rows-rows.ensures.climbs) rows c.soonest.result (rw c.rows-rows.ensures.items at c.soonest.ensures.within))
