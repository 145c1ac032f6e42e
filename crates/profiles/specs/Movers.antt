-- The machines that may not stay as they are.
use Rattle.std.specs.Prelude.{◌≡◌, ℕ, ◌<◌, List}
use Rattle.std.specs.List.{Contains}
use Rattle.relax.specs.Prelude.{Instance, machine_count, Sets, vm}
use Rattle.cluster.specs.declared.{choices.Choice.TheVariants.Idle, ids.Element.Element, ids.Element.TheVariants.Vm, ids.Element.TheVariants.Node}
use Rattle.profiles.specs.Near.{AreMachines}

-- any machine that is not in the list may stay as it is; no machine is there twice
pub record AreMovers (p : Instance) (s : Sets) (xs : List ℕ) : Type 0 where
  pub machines : AreMachines p xs
  pub others : (v : ℕ) → v < machine_count p → ¬ Contains xs v → Contains (s (vm v)) Idle

-- ---- one change more

-- nothing is gone, and what were machines of an instance of so many still are
pub record IsGrown (count : ℕ) (xs ys : List ℕ) : Type 0 where
  pub kept : (v : ℕ) → Contains xs v → Contains ys v
  pub machines : (p : Instance) → machine_count p ≡ count → AreMachines p xs → AreMachines p ys

-- machine v is in the list, or may stay as it is
pub record IsListedOrStays (s : Sets) (v : ℕ) (xs : List ℕ) : Type 0 where
  pub stays : ¬ Contains xs v → Contains (s (vm v)) Idle

-- so it is of an element, if it is a machine
abbrev pub IsToldOf : Sets → Element → List ℕ → Type 0
IsToldOf s (Vm v) xs = IsListedOrStays s v.0 xs
IsToldOf s (Node n) xs = Unit {0}
