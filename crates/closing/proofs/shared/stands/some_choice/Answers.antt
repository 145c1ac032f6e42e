use Rattle.closing.proofs.{Prelude.arith, EndLemmas.row_choice_at}
use Rattle.closing.proofs.shared.stands.some_choice.Goals as goal

pub returns-in-len1-up-clause-some : goal.returns-in-len1-up-clause-some
returns-in-len1-up-clause-some c = row_choice_at c.args.domain.now c.rows.result.now 0 c.rows.ensures.items c.rows.ensures.climbs (omega (arith, c.in-len1-up.len_at_least))
