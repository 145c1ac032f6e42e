use Rattle.std.proofs.lemmas.Bool.{not-false}
use Rattle.judge.proofs.first.is_unmet.Goals as goal

pub returns-then-applies-clause-met : goal.returns-then-applies-clause-met
returns-then-applies-clause-met c = λ met _. c.holds.ensures.0 (not-false c.holds.result met)
