use Rattle.rule_pair.proofs.Prelude.{ℕ, ◌<◌, IsInPart, IsTold, sets}
use Rattle.rule_pair.proofs.ApartLemmas.{AreTold}
use Rattle.rule_pair.proofs.clear.tell_parts.Given as goal

abbrev pub invariant-loop-i : goal.invariant-loop-i
invariant-loop-i l = AreTold l.fn.table l.table ((k v : ℕ) → k < l.i → IsInPart l.parts k v → IsTold l.p.given (sets l.g) l.table l.from k v)
