use Rattle.rule_constraint.proofs.Public.{row_end}
use Rattle.rule_pair.proofs.pair_look.first_start.Goals as goal

pub returns-then-is_at : goal.returns-then-is_at
returns-then-is_at c = row_end c.args.domain.now c.rows-rows.result.now c.loop-i.i c.rows-rows.ensures.items c.rows-rows.ensures.climbs c.loop-i-test.true
