use Rattle.std.proofs.Common.{None}
use Rattle.rule_pair.proofs.refuting.refutes_part.Goals as goal

pub returns-in-Pair : goal.returns-in-Pair
returns-in-Pair c = λ yes. rw c.in-Pair.is (c.is_seen.ensures yes None)
