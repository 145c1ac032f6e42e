use Rattle.closing.proofs.{Prelude.domain_at, EndLemmas.past_of_rows}
use Rattle.closing.proofs.shared.change_instants.next_of_element.Goals as goal

pub returns-clause-past : goal.returns-clause-past
returns-clause-past c = past_of_rows (domain_at c.args.g.now c.args.e) c.domain.result.now c.rows.result.now c.args.after c.next_of_rows.result c.domain.ensures.domain c.rows.ensures.items c.rows.ensures.climbs c.next_of_rows.ensures.past
