-- Propagators that follow a trail: a level for each of its marks, and one for its region.
use Rattle.std.specs.Prelude.{◌≡◌, List, [], ◌∷◌, length, All}
use Rattle.prop_core.specs.Words.{Instance, RegionView, sets, Marked}
use Rattle.prop_core.specs.Propagators.{IsRegionOf, Meaning, TopAgrees}

-- each mark's level agrees with the region at the mark; the marks, newest first, have the levels below their number
abbrev pub AtMarks : Meaning → Instance → List RegionView → Type 0
AtMarks m p [] = Unit {0}
AtMarks m p (g ∷ gs) = m.agrees p (length gs) (sets g) × AtMarks m p gs

-- the top level agrees with the region of the trail, and each lower one with the region at its mark
pub record Follows (p : Instance) (t : Marked) (m : Meaning) : Type 0 where
  pub level : m.level ≡ length t.marks
  pub top : TopAgrees m p (sets t.region)
  pub marks : AtMarks m p t.marks

pub record AllFollow {B : Type 0} (m : B → Meaning) (p : Instance) (t : Marked) (xs : List B) : Type 0 where
  pub each : All (λ b. Follows p t (m b)) xs

-- the region of a trail, and those at its marks, are ones of the instance
pub record IsTrailOf (p : Instance) (t : Marked) : Type 0 where
  pub region : IsRegionOf p t.region
  pub marks : All (IsRegionOf p) t.marks
