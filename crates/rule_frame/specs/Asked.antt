-- What is asked of the watches of a rule.
use Rattle.std.specs.Prelude.{ℕ, ◌<◌, ◌≤◌}
use Rattle.rule_frame.specs.Words.{broken_at, CutHolds, Instance, IsClean, IsMetWith, Sets, sure, Watch, FailHolds}
use Rattle.rule_frame.specs.declared.watcher.Asked.{Asked}
use Rattle.rule_frame.specs.declared.watcher.Asked.TheVariants.{Quiet, Failed, Cuts, Refuted, Proposed}

-- each of the first watches is clean
pub record AllClean (watch : ℕ → Watch) (p : Instance) (s : Sets) (count : ℕ) : Type 0 where
  pub clean : (i : ℕ) → i < count → IsClean (watch i) p s

-- all watches are clean; or one is broken at an instant; or one is with an element set to an end of its choices; or a reason refutes the sets; or what is inside a part of an element's choices
abbrev pub IsAskedOf : (ℕ → Watch) → Instance → Sets → ℕ → Asked → Type 0
IsAskedOf watch p s count Quiet = AllClean watch p s count
IsAskedOf watch p s count (Failed i t) = (i < count) × (t ≤ p.horizon) × broken_at (watch i) p t (sure p s t)
IsAskedOf watch p s count (Cuts i x c t) = (i < count) × (t ≤ p.horizon) × IsMetWith (broken_at (watch i) p t) p s t x c
IsAskedOf watch p s count (Refuted reason) = FailHolds p s reason
IsAskedOf watch p s count (Proposed it) = CutHolds p s it.element it.part it.reason
