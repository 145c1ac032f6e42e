use Rattle.std.proofs.Common.{sym, ◌∙◌}
use Rattle.branching.proofs.SplitLemmas.{has_row, splits_first, splits_idle}
use Rattle.branching.proofs.split.by_least_end.Goals as goal

pub returns-then-idle : goal.returns-then-idle
returns-then-idle c =
    splits_idle c.args.domain.now (rw c.rows-rows.ensures.items at c.rows-rows.ensures.climbs) (sym c.idle.ensures ∙ c.if-idle.true) (has_row c.args.domain.now c.requires.open)

pub returns : goal.returns
returns c =
    rw c.rows-rows.ensures.items
    (splits_first c.args.domain.now (rw c.rows-rows.ensures.items at c.rows-rows.ensures.climbs) c.requires.open (sym c.idle.ensures ∙ c.if-idle.false) c.soonest.result (rw c.rows-rows.ensures.items at c.soonest.ensures.within))
