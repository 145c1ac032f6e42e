-- Helping only: which machines are nowhere that a constraint forbids to them, up to the horizon.
use Rattle.std.specs.Prelude.{◌≡◌, ◌≢◌, ℕ, ◌≤◌, ◌&&◌, ◌||◌, ◌==◌, false, nat_lt, List, [], IsTrue}
use Rattle.rule_place.specs.Words.{ForbidsPlace, hosted_in, Instance, is_continuous, IsEnd, leave_of, one, present_at, Sets, state_of, vm, Choice, Nowhere, At, Constraint}
use Rattle.cluster.specs.declared.choices.Place.{Place}

-- an action there goes to no node that the constraint forbids to machine v
abbrev pub MayGo : Instance → Constraint → ℕ → Place → Type 0
MayGo p k v Nowhere = Unit {0}
MayGo p k v (At n) = ¬ ForbidsPlace p k v n.0

-- the constraint is to hold at the instant
abbrev pub IsDue : Instance → Constraint → ℕ → Type 0
IsDue p k t = (t ≤ p.horizon) × IsTrue (is_continuous k || (t == p.horizon))

-- whenever it is, machine v has left a host that is forbidden to it, under each end of these choices
pub record IsOffHost (p : Instance) (k : Constraint) (v : ℕ) (cs : List Choice) : Type 0 where
  pub off : (n t : ℕ) (c : Choice) → IsDue p k t → ForbidsPlace p k v n → IsEnd cs c → (hosted_in (state_of p v) (one n) && nat_lt t (leave_of p v c)) ≡ false

-- machine v has a choice, and is under no end of its choices on a node that is forbidden to it
pub record IsAllowed (p : Instance) (s : Sets) (k : Constraint) (v : ℕ) : Type 0 where
  pub some : s (vm v) ≢ []
  pub off : (n t : ℕ) (c : Choice) → IsDue p k t → ForbidsPlace p k v n → IsEnd (s (vm v)) c → present_at p v (one n) t c ≡ false
