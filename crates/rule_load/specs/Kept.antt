-- What is kept beside the rule: where each machine surely stands, before when it does not start at a node, and the machines that may not
-- stay, with levels; the machines near each node; the nodes that may not be usable at all times; and whether machines that may stay never
-- have less than at present.
use Rattle.std.specs.Prelude.{◌≡◌, ℕ, ◌<◌, ◌≤◌, Bool, true, List, length, slice_index_or}
use Rattle.std.specs.List.{Contains}
use Rattle.profiles.specs.Prelude.{AreFirsts, AreMovers, AreStanding, comes_by, FixedView, have_come, Instance, IsFixed, IsNear, level_at, Levels, list_at, machine_count, no_standing, node_count, Sets, Tables, vm}
use Rattle.load_bounds.specs.HoldOn.{StayersHoldOn}
use Rattle.load_bounds.specs.NodeRooms.{AreRooms, RoomsView}
use Rattle.rule_load.specs.Words.{Element, Vm, TheNode, Cache, Standing}

-- each machine of which all choices have come to a node is in the list of the node
pub record HaveCome (p : Instance) (s : Sets) (xs : List (List ℕ)) : Type 0 where
  pub come : (n v t : ℕ) → n < node_count p → v < machine_count p → have_come n t (s (vm v)) ≡ true → Contains (list_at xs n) v

-- what is kept of a level is right for the sets, what does not change is for the instance, and of each node the machines near it are
-- listed, and all that may not stay, and all nodes that may not be usable at all times; and if it says so, who may stay never has less
-- than at present
pub record AreKept (p : Instance) (s : Sets) (m : Tables) (x : FixedView) (xs : List (List ℕ)) (f ws : Levels ℕ) (os : RoomsView) (hold_on : Bool) (k : ℕ) : Type 0 where
  pub standing : AreStanding p s (level_at m k)
  pub fixed : IsFixed p x
  pub near : IsNear p xs
  pub come : HaveCome p s xs
  pub firsts : AreFirsts p s (level_at f k)
  pub same : length f.older ≡ length m.older
  pub movers : AreMovers p s (level_at ws k)
  pub alike : length ws.older ≡ length m.older
  pub rooms : AreRooms p s os
  pub hold : hold_on ≡ true → StayersHoldOn p s

abbrev pub cache_of : Tables → FixedView → List (List ℕ) → Levels ℕ → Levels ℕ → RoomsView → Bool → Cache
cache_of m x xs f ws os hold_on = record { right = λ p k s. AreKept p s m x xs f ws os hold_on k; level = length m.older }

-- ---- one machine more

-- nothing is gone, and what was near for an instance of so many machines still is
pub record Grows (count : ℕ) (xs ys : List (List ℕ)) : Type 0 where
  pub kept : (n v : ℕ) → Contains (list_at xs n) v → Contains (list_at ys n) v
  pub near : (p : Instance) → machine_count p ≡ count → IsNear p xs → IsNear p ys

-- machine v, which has these numbers, is in the list of the node that it comes to, if there is one
pub record IsListedBy (p : Instance) (v : ℕ) (k : Standing) (xs : List (List ℕ)) : Type 0 where
  pub there : (n t : ℕ) → n < node_count p → comes_by n t k.come ≡ true → Contains (list_at xs n) v

-- so it is of an element, if it is a machine
abbrev pub IsListedFor : Instance → Element → List Standing → List (List ℕ) → Type 0
IsListedFor p (Vm v) ks xs = IsListedBy p v.0 (slice_index_or ks v.0 no_standing) xs
IsListedFor p (TheNode n) ks xs = Unit {0}

-- ---- what does not start at a node yet

-- no machine that is not near a node starts there before an instant, by before when each does not
abbrev pub StartNoSooner : Instance → List ℕ → List ℕ → ℕ → Type 0
StartNoSooner p near firsts t = (v : ℕ) → v < machine_count p → ¬ Contains near v → t ≤ slice_index_or firsts v 0
