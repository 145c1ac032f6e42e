use Rattle.rule_setload.proofs.Prelude.{sym, ◌∙◌, sets}
use Rattle.rule_setload.proofs.BoundLemmas.{bound_clean}
use Rattle.rule_setload.proofs.amounts.AmountKeeper.is_clean_as.Goals as goal

pub stays-requires-clause-bound : goal.stays-requires-clause-bound
stays-requires-clause-bound c = rw c.requires.there (sym c.bound_of.ensures.bound ∙ c.in-Some.is)

pub returns-in-Some : goal.returns-in-Some
returns-in-Some c = λ yes. bound_clean c.args.p.now.given (sets c.args.g.now) c.args.c c.args.constraint.now c.in-Some.bound c.requires.there (sym c.bound_of.ensures.bound ∙ c.in-Some.is) (rw (← c.is_continuous.ensures) (c.stays.ensures yes))
