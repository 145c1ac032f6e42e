use Rattle.closing.proofs.EndLemmas.{row_choice_at}
use Rattle.closing.proofs.shared.most.outer_choice.Goals as goal

pub returns-in-len1-up-clause-some : goal.returns-in-len1-up-clause-some
returns-in-len1-up-clause-some c = row_choice_at c.args.domain.now c.rows-rows.result.now c.outer_row-at.result c.rows-rows.ensures.items c.rows-rows.ensures.climbs c.outer_row-at.ensures
