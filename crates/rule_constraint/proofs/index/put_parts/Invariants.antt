use Rattle.rule_constraint.proofs.Prelude.{ℕ, ◌<◌, IsInPart, IsPut}
use Rattle.rule_constraint.proofs.index.put_parts.Given as goal

abbrev pub invariant-loop-i : goal.invariant-loop-i
invariant-loop-i l = IsPut (λ v. (k : ℕ) × (k < l.i) × IsInPart l.parts k v) l.c l.fn.lists l.lists
