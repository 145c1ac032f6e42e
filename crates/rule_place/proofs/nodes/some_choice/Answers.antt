use Rattle.relax.proofs.Public.{start_in}
use Rattle.rule_place.proofs.nodes.some_choice.Goals as goal

pub returns-in-len1-up-clause-some : goal.returns-in-len1-up-clause-some
returns-in-len1-up-clause-some c =
    rw c.rows.ensures.items
    (start_in c.args.domain.now 0 _ (rw c.rows.ensures.items at c.rows.ensures.climbs) (rw c.rows.ensures.items at c.in-len1-up.len_at_least))
