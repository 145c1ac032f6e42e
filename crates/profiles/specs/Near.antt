-- Which machines are near each node.
use Rattle.std.specs.Prelude.{◌≡◌, ◌⊎◌, ℕ, ◌<◌, true, List, [], ◌∷◌, length, slice_index_or}
use Rattle.std.specs.List.{Contains}
use Rattle.relax.specs.Prelude.{hosted_in, Instance, machine_count, node_count, one, state_of}

-- the list of node n
abbrev pub list_at : List (List ℕ) → ℕ → List ℕ
list_at xs n = slice_index_or xs n []

-- no number is in the list twice
abbrev pub IsEachOnce : List ℕ → Type 0
IsEachOnce [] = Unit {0}
IsEachOnce (x ∷ xs) = (¬ Contains xs x) × IsEachOnce xs

-- each is the number of a machine, and none is there twice
pub record AreMachines (p : Instance) (xs : List ℕ) : Type 0 where
  pub each : (v : ℕ) → Contains xs v → v < machine_count p
  pub once : IsEachOnce xs

-- a list of machines for each node, in which is each of the first machines that it hosts
pub record AreNear (p : Instance) (many : ℕ) (xs : List (List ℕ)) : Type 0 where
  pub count : length xs ≡ node_count p
  pub machines : (n : ℕ) → AreMachines p (list_at xs n)
  pub hosted : (n v : ℕ) → n < node_count p → v < many → hosted_in (state_of p v) (one n) ≡ true → Contains (list_at xs n) v

-- and each machine that it hosts
abbrev pub IsNear : Instance → List (List ℕ) → Type 0
IsNear p xs = AreNear p (machine_count p) xs

-- the list of node n has v now, if there is such a node; nothing else has changed
pub record IsPut (n v : ℕ) (xs ys : List (List ℕ)) : Type 0 where
  pub count : length ys ≡ length xs
  pub there : n < length ys → Contains (list_at ys n) v
  pub kept : (m w : ℕ) → Contains (list_at xs m) w → Contains (list_at ys m) w
  pub only : (m w : ℕ) → Contains (list_at ys m) w → Contains (list_at xs m) w ⊎ (w ≡ v)
  pub once : (m : ℕ) → IsEachOnce (list_at xs m) → IsEachOnce (list_at ys m)
