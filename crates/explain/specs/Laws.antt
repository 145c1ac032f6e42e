-- Laws of problems with some of the constraints of another one.
use Rattle.std.specs.Prelude.{◌≡◌, ℕ, List}
use Rattle.slices.specs.Prelude.{Instance}
use Rattle.explain.specs.Subs.{all_numbers, IsUnsettled, sub, without}
use Rattle.explain.specs.Explained.{HasPlanOfCost}

-- with all its constraints it is the problem itself
abbrev pub SubOfAll : Type 0
SubOfAll = (p : Instance) → sub p (all_numbers p) ≡ p

-- a valid plan stays one, and costs the same, where one constraint fewer is kept which is no part of the demand, of the capacity or of
-- the legal choices. Without one that is, a plan need not even be legal.
abbrev pub FewerRules : Type 0
FewerRules =
    (p : Instance) (kept : List ℕ) (c : ℕ) → IsUnsettled p c → (cost : ℕ) → HasPlanOfCost (sub p kept) cost → HasPlanOfCost (sub p (without c kept)) cost
