use Rattle.std.proofs.Common.{arith, rules}
use Rattle.rule_frame.proofs.EndLemmas.{end_is_of_row, end_is_within, first_is_part, has_row, last_is_part}
use Rattle.rule_frame.proofs.widen.row_of_end.Goals as goal

pub returns-then-eq-clause-is_end : goal.returns-then-eq-clause-is_end
returns-then-eq-clause-is_end c = end_is_of_row c.args.d.now c.rows-rows.result.now c.args.place c.args.start c.loop-i.i c.rows-rows.ensures.items c.rows-rows.ensures.climbs c.loop-i-test.true (search rules) c.requires

pub returns-then-eq-clause-within : goal.returns-then-eq-clause-within
returns-then-eq-clause-within c = end_is_within c.args.d.now c.rows-rows.result.now c.args.place c.args.start c.loop-i.i c.rows-rows.ensures.items c.rows-rows.ensures.climbs c.loop-i-test.true (search rules) c.requires

pub returns-then-eq-clause-first : goal.returns-then-eq-clause-first
returns-then-eq-clause-first c = first_is_part c.args.d.now c.rows-rows.result.now c.args.place c.args.start c.loop-i.i c.rows-rows.ensures.items c.rows-rows.ensures.climbs c.loop-i-test.true (search rules)

pub returns-then-eq-clause-last : goal.returns-then-eq-clause-last
returns-then-eq-clause-last c = last_is_part c.args.d.now c.rows-rows.result.now c.args.place c.args.start c.loop-i.i c.rows-rows.ensures.items c.rows-rows.ensures.climbs c.loop-i-test.true (search rules)

pub returns-clause-first : goal.returns-clause-first
returns-clause-first c = absurd (has_row c.args.d.now c.rows-rows.result.now c.args.place c.args.start c.rows-rows.ensures.items c.rows-rows.ensures.climbs (λ i h. c.loop-i.invariant i (omega (arith, h))) c.requires)

pub returns-clause-last : goal.returns-clause-last
returns-clause-last c = absurd (has_row c.args.d.now c.rows-rows.result.now c.args.place c.args.start c.rows-rows.ensures.items c.rows-rows.ensures.climbs (λ i h. c.loop-i.invariant i (omega (arith, h))) c.requires)
