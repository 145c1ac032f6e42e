-- Propagators, and numbers of machines, that follow the regions of a walk.
use Rattle.std.specs.Prelude.{◌≡◌, Bool, true, IfSome, List, [], ◌∷◌, Option, reverse}
use Rattle.prop_core.specs.Prelude.{AllFollow, Covered, Instance, IsTrailOf, Marked, Meaning, RegionView, sets}
use Rattle.standings.specs.Prelude.{AreStanding, Tables}
use Rattle.standings.specs.declared.numbers.Standing.{Standing}
use Rattle.quick_checks.specs.Prelude.{IsTally}
use Rattle.quick_checks.specs.declared.tally.Tally.{Tally}

-- they cover each kind of standard reasons, and follow the trail, whose regions are ones of the instance
pub record AreFollowing {B : Type 0} (m : B → Meaning) (p : Instance) (t : Marked) (xs : List B) : Type 0 where
  pub covered : Covered m xs
  pub trail : IsTrailOf p t
  pub follow : AllFollow m p t xs

-- these lists have the numbers of all machines in these regions
abbrev pub AreCountedAt : Instance → List RegionView → List (List Standing) → Type 0
AreCountedAt p [] [] = Unit {0}
AreCountedAt p [] (ks ∷ levels) = ⊥
AreCountedAt p (g ∷ gs) [] = ⊥
AreCountedAt p (g ∷ gs) (ks ∷ levels) = AreStanding p (sets g) ks × AreCountedAt p gs levels

-- the numbers are those of the region of the trail, and below them those at its marks
pub record AreCounted (p : Instance) (t : Marked) (table : Tables) : Type 0 where
  pub trail : IsTrailOf p t
  pub top : AreStanding p (sets t.region) table.top
  pub older : AreCountedAt p t.marks (reverse table.older)

-- both do where it is said that they do, and else nothing is known of them; what is told to be held together is so in the region of the trail
pub record FollowWhile {B : Type 0} (m : B → Meaning) (p : Instance) (t : Marked) (follow : Bool) (xs : List B) (counted : Bool) (table : Tables) (tally : Option Tally) : Type 0 where
  pub following : follow ≡ true → AreFollowing m p t xs
  pub counting : counted ≡ true → AreCounted p t table
  pub telling : IfSome tally (IsTally p (sets t.region))
