use Rattle.std.proofs.Common.{sym, ◌∙◌}
use Rattle.branching.proofs.SplitLemmas.{has_row, splits_half, splits_idle}
use Rattle.branching.proofs.split.by_first_half.Goals as goal

pub returns-then-idle-clause-splits : goal.returns-then-idle-clause-splits
returns-then-idle-clause-splits c =
    splits_idle c.args.domain.now (rw c.rows-rows.ensures.items at c.rows-rows.ensures.climbs) (sym c.idle.ensures ∙ c.if-idle.true) (has_row c.args.domain.now c.requires)

pub returns-clause-splits : goal.returns-clause-splits
returns-clause-splits c =
    rw c.rows-rows.ensures.items
    (splits_half c.args.domain.now (rw c.rows-rows.ensures.items at c.rows-rows.ensures.climbs) c.requires (sym c.idle.ensures ∙ c.if-idle.false))
