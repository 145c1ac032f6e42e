-- Helping only: what the code keeps of the regions that are open.
use Rattle.std.specs.Prelude.{◌≡◌, ℕ, List, [], ◌∷◌, ◌++◌, length, map, reverse}
use Rattle.bound.specs.Prelude.{IsOneOf, RegionView, Sets, sets}
use Rattle.prop_core.specs.Prelude.{Instance, Meaning}
use Rattle.cert_model.specs.{declared.frontier.Due.Due, declared.frontier.Due.TheVariants.Nothing, declared.frontier.Due.TheVariants.Whole, declared.frontier.Due.TheVariants.Outside, declared.frontier.Frontier.Frontier, declared.frontier.Outer.Outer, Following.FollowWhile, Open.due_sets, Open.due_sums, Open.outer_sets}

-- what comes after what is due
abbrev pub later_sets : Frontier → List Sets
later_sets f = outer_sets f.trail.marks (reverse f.outers.items)

abbrev pub later_sums : Frontier → List ℕ
later_sums f = map (λ o. o.sum) (reverse f.outers.items)

-- all that is open, what is due first, and the sums
abbrev pub open_sets : Frontier → List Sets
open_sets f = due_sets f.due (sets f.trail.region) ++ later_sets f

abbrev pub open_sums : Frontier → List ℕ
open_sums f = due_sums f.due f.sum ++ later_sums f

-- ---- sizes

-- the region is of so many machines and nodes
pub record IsOf (m n : ℕ) (g : RegionView) : Type 0 where
  pub machines : length g.machines ≡ m
  pub nodes : length g.nodes ≡ n

-- there is an outer side for each mark, and its element is there
abbrev pub AreOuters : ℕ → ℕ → List RegionView → List Outer → Type 0
AreOuters machines nodes [] [] = Unit {0}
AreOuters machines nodes [] (o ∷ outers) = ⊥
AreOuters machines nodes (mark ∷ marks) [] = ⊥
AreOuters machines nodes (mark ∷ marks) (o ∷ outers) = IsOf machines nodes mark × IsOneOf machines nodes o.element × AreOuters machines nodes marks outers

-- what is due is of an element that is there; where nothing is, nothing comes later
abbrev pub IsDueOf : ℕ → ℕ → Due → List Outer → Type 0
IsDueOf machines nodes Nothing outers = outers ≡ []
IsDueOf machines nodes Whole outers = Unit {0}
IsDueOf machines nodes (Outside x part) outers = IsOneOf machines nodes x

-- all regions are of one size
pub record IsKept (f : Frontier) : Type 0 where
  pub outers : AreOuters (length f.trail.region.machines) (length f.trail.region.nodes) f.trail.marks (reverse f.outers.items)
  pub due : IsDueOf (length f.trail.region.machines) (length f.trail.region.nodes) f.due f.outers.items

-- the regions of two are of one size
pub record AreSameSize (f g : Frontier) : Type 0 where
  pub machines : length f.trail.region.machines ≡ length g.trail.region.machines
  pub nodes : length f.trail.region.nodes ≡ length g.trail.region.nodes

-- two keep the same
pub record AreSame (f g : Frontier) : Type 0 where
  pub trail : f.trail ≡ g.trail
  pub due : f.due ≡ g.due
  pub sum : f.sum ≡ g.sum
  pub outers : f.outers.items ≡ g.outers.items

-- while it says so, the propagators that are handed in, the numbers of machines and what some of them hold follow its trail
abbrev pub FollowFrontier : {B : Type 0} → (B → Meaning) → Instance → Frontier → List B → Type 0
FollowFrontier m p f xs = FollowWhile m p f.trail f.followers.follow xs f.followers.counted f.followers.table f.followers.tally

-- nothing is kept back: what is due is the region as it is, or there is nothing
abbrev pub IsEntered : Due → Type 0
IsEntered Nothing = Unit {0}
IsEntered Whole = Unit {0}
IsEntered (Outside x part) = ⊥
