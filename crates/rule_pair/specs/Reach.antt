-- Helping only: when machines of other parts stay at nodes.
use Rattle.std.specs.Prelude.{◌⊎◌, ℕ, ◌≤◌, List, max, slice_index_or}
use Rattle.cluster.specs.declared.choices.Place.{Place}
use Rattle.cluster.specs.declared.choices.Place.TheVariants.{Nowhere, At}
use Rattle.machine_bounds.specs.Prelude.{AreEnds, AreEnough, IsKnown}
use Rattle.machine_bounds.specs.declared.ends.Ends.{Ends}
use Rattle.rule_pair.specs.declared.longest.Longest.{Longest}
use Rattle.rule_pair.specs.Longest.{told_until}

-- no stay of another part ends later than these instants by node
pub record AreUntils (xs : List Longest) (part : ℕ) (us : List ℕ) : Type 0 where
  pub each : (n : ℕ) → told_until xs part n ≤ slice_index_or us n 0

-- and beside them stands what is asked of machines
pub record AreStayEnds (xs : List Longest) (part from : ℕ) (bounds : List ℕ) (x : Ends) : Type 0 where
  pub until : AreUntils xs part x.until
  pub ends : AreEnds from x
  pub enough : AreEnough x.until bounds x.enough

-- an action of machine w there starts after all stays of machines of other parts that last past an instant, or that is known
abbrev pub IsLateOrKnown : List Longest → ℕ → ℕ → List ℕ → List ℕ → ℕ → Place → ℕ → Type 0
IsLateOrKnown xs part from gs ws w Nowhere start = Unit {0}
IsLateOrKnown xs part from gs ws w (At n) start = (told_until xs part n.0 ≤ max start from) ⊎ IsKnown gs ws w n.0
