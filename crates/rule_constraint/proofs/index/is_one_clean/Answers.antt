use Rattle.rule_constraint.proofs.Prelude.{get_or}
use Rattle.rule_constraint.proofs.IndexLemmas.{number_at}
use Rattle.rule_constraint.proofs.index.is_one_clean.Goals as goal

pub is_clean_of-requires-clause-constraint : goal.is_clean_of-requires-clause-constraint
is_clean_of-requires-clause-constraint c = c.requires.numbers (get_or c.args.numbers.now c.loop-k.k 0) (number_at c.args.numbers.now c.loop-k.k c.loop-k-test.true)
