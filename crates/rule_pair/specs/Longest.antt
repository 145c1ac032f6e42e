-- Helping only: by node, how long machines of different parts surely stay there.
use Rattle.std.specs.Prelude.{ℕ, ◌≤◌, ◌==◌, List, slice_index_or, if◌then◌else◌}
use Rattle.rule_pair.specs.declared.longest.Longest.{Longest}
use Rattle.rule_pair.specs.declared.longest.Stay.{Stay}

-- the longest stay of those that are of other parts than one
abbrev pub of_others : Longest → ℕ → Stay
of_others x part = if x.first.part == part then x.second else x.first

abbrev pub IsOrdered : Longest → Type 0
IsOrdered x = x.second.until ≤ x.first.until

-- the longest at a node; at none that is not listed is there a stay
abbrev pub nobody : Longest
nobody = let none : Stay = record { until = 0; part = 0; machine = record { 0 = 0 } } in record { first = none; second = none }

abbrev pub at : List Longest → ℕ → Longest
at xs n = slice_index_or xs n nobody

-- before when machines of other parts than one are told to stay at a node
abbrev pub told_until : List Longest → ℕ → ℕ → ℕ
told_until xs part n = (of_others (at xs n) part).until

pub record AreOrdered (xs : List Longest) : Type 0 where
  pub each : (n : ℕ) → IsOrdered (at xs n)

-- each stay is told to be as long as before, or longer
pub record AreLonger (old new : List Longest) : Type 0 where
  pub each : (part n : ℕ) → told_until old part n ≤ told_until new part n
