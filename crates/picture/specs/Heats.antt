-- How full nodes are.
use Rattle.std.specs.Prelude.{ℕ, zero, suc, ◌*◌, ◌-◌, ◌^◌, Bool, List, length, map, max, min, if◌then◌else◌}
use Rattle.std.specs.Int.{div_ceil}
use Rattle.judge.specs.Prelude.{capacity_of, Loads, loads_of, Snapshot, snapshot_at}
use Rattle.show.specs.Prelude.{Choices, Instance}
use Rattle.picture.specs.declared.marks.Heat.{Heat}
use Rattle.picture.specs.declared.marks.Power.{Power}
use Rattle.picture.specs.declared.marks.Power.TheVariants.{On, Off, Turning}

-- what a load is of a capacity, in parts of 100, rounded up; what is greater than any amount counts as 2^64 - 1 parts of that
abbrev pub parts_of : ℕ → ℕ → ℕ
parts_of capacity load = div_ceil (min (load * 100) (2 ^ 64 - 1)) (max capacity 1)

-- the greatest of f 0, f 1, .. f (n - 1), and 0 where n is 0
abbrev pub most_to : ℕ → (ℕ → ℕ) → ℕ
most_to zero f = 0
most_to (suc n) f = max (most_to n f) (f n)

-- how full a node is: the parts of the resource of which least is left
abbrev pub fullness : Instance → Loads → ℕ → ℕ
fullness p loads n = most_to (length p.resources) (λ r. parts_of (capacity_of p n r) (loads n r))

abbrev pub power_of : Bool → Bool → Power
power_of powered usable = if usable then On else (if powered then Turning else Off)

-- how full a node is at an instant, by the loads that a report has, and whether it is on
abbrev pub heat_at : Instance → Choices → ℕ → ℕ → Heat
heat_at p plan n t = let s = snapshot_at p plan t in record { at = t; power = power_of (s.powered n) (s.usable n); parts = fullness p (loads_of p s) n }

-- a step for each instant
abbrev pub heats_of : Instance → Choices → ℕ → List ℕ → List Heat
heats_of p plan n instants = map (heat_at p plan n) instants
