use Rattle.rule_setload.proofs.Prelude.{sym, ◌∙◌}
use Rattle.rule_setload.proofs.amounts.AmountKeeper.propose_as.Goals as goal

pub is_ample-requires-clause-bound : goal.is_ample-requires-clause-bound
is_ample-requires-clause-bound c = rw c.requires.there (sym c.bound_of.ensures.bound ∙ c.in-Some.is)
