use Rattle.rule_load.proofs.ConfirmLemmas.{row_is_end}
use Rattle.rule_load.proofs.confirm.is_end.Goals as goal

pub returns-in-Act : goal.returns-in-Act
returns-in-Act c =
    λ on. rw c.in-Act.is
    (row_is_end c.args.domain.now c.rows-rows.result.now c.in-Act.place c.in-Act.start c.rows-rows.ensures.items c.rows-rows.ensures.climbs (c.has_end.ensures on))
