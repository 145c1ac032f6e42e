use Rattle.rule_setload.proofs.Prelude.{sym, ◌∙◌, sets}
use Rattle.rule_setload.proofs.PowerLemmas.{power_clean}
use Rattle.rule_setload.proofs.amounts.has_power.Goals as goal

pub returns-in-Some : goal.returns-in-Some
returns-in-Some c = λ yes. power_clean c.args.p.now.given (sets c.args.g.now) c.args._c c.args.constraint.now c.in-Some.bound c.requires.there (sym c.power_of.ensures ∙ c.in-Some.is) (rw (← c.is_continuous.ensures) (c.power_when_due.ensures yes))
