use Rattle.domains.specs.Sets.{sets}
use Rattle.rule_place.proofs.AllowedLemmas.{allowed_clean, allowed_listed}
use Rattle.rule_place.proofs.allowed.is_kept.Goals as goal

pub are_allowed-requires-clause-machines : goal.are_allowed-requires-clause-machines
are_allowed-requires-clause-machines c = rw c.items.ensures (allowed_listed c.args.p.now.given c.args.constraint.now c.in-Some.limits.0.now _ c.in-Some.ensures.some c.requires.rule)

pub returns-in-Some : goal.returns-in-Some
returns-in-Some c = λ yes. allowed_clean c.args.p.now.given (sets c.args.g.now) c.args.constraint.now c.in-Some.limits.0.now _ c.in-Some.ensures.some (rw c.items.ensures at (c.are_allowed.ensures yes))
