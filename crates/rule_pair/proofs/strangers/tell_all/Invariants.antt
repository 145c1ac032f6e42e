use Rattle.rule_pair.proofs.Prelude.{ℕ, ◌<◌, IsTold, sets}
use Rattle.rule_pair.specs.Prelude.{class_of, has_machine}
use Rattle.rule_pair.proofs.ApartLemmas.{AreTold}
use Rattle.rule_pair.proofs.strangers.tell_all.Given as goal

abbrev pub invariant-loop-i : goal.invariant-loop-i
invariant-loop-i l = AreTold l.fn.table l.table ((v : ℕ) → v < l.i → IsTold l.p.given (sets l.g) l.table l.from (class_of (has_machine l.members) v) v)
