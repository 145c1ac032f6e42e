-- What no change of a region changes.
use Rattle.std.specs.Prelude.{◌≡◌, ℕ, ◌+◌, ◌*◌, ◌<◌, ◌≤◌, List, [], length, map, Option, None, Vec, slice_index_or}
use Rattle.std.specs.List.{All, Contains, Sorted.IsNonDecreasingBy}
use Rattle.std.specs.declared.alloc.Global.{Global}
use Rattle.relax.specs.Prelude.{demand_of, hosted_in, Instance, machine_count, max_amount, max_machines, one, state_of, sum_to}
use Rattle.cluster.specs.declared.ids.NodeId.{NodeId}
use Rattle.slices.specs.declared.slice.Weight.TheVariants.{Amount}
use Rattle.standings.specs.Prelude.{base, HostIs}
use Rattle.profiles.specs.declared.fixed.MostUse.{MostUse}

-- what a contract sees of it: the host of each machine, and by resource the most that any machine has and brings, what all have at
-- present, and the machines by what each has and brings
pub record FixedView : Type 0 where
  pub hosts : List (Option NodeId)
  pub most : List ℕ
  pub bases : List ℕ
  pub orders : List (List MostUse)

-- the hosts of the first machines
pub record AreHosts (p : Instance) (many : ℕ) (xs : List (Option NodeId)) : Type 0 where
  pub count : length xs ≡ many
  pub each : (v : ℕ) → v < many → (n : ℕ) → HostIs (slice_index_or xs v None) n (hosted_in (state_of p v) (one n))

-- none of the first machines has and brings more of resource r
pub record IsMostUse (p : Instance) (r many most : ℕ) : Type 0 where
  pub each : (v : ℕ) → v < many → base p v (Amount r) + demand_of p v r ≤ most

-- so it is of the first resources
pub record AreMostUses (p : Instance) (many : ℕ) (xs : List ℕ) : Type 0 where
  pub count : length xs ≡ many
  pub each : (r : ℕ) → r < many → IsMostUse p r (machine_count p) (slice_index_or xs r 0)

-- all machines together have so much of resource r at present, which is no more than a sum of so many amounts
pub record IsTotalBase (p : Instance) (r total : ℕ) : Type 0 where
  pub sum : total ≡ sum_to (machine_count p) (λ v. base p v (Amount r))
  pub small : total ≤ max_machines * max_amount

-- so it is of the first resources
pub record AreTotalBases (p : Instance) (many : ℕ) (xs : List ℕ) : Type 0 where
  pub count : length xs ≡ many
  pub each : (r : ℕ) → r < many → IsTotalBase p r (slice_index_or xs r 0)

-- the most that machine v uses of resource r on one node: what it has and what it brings
abbrev pub most_use : Instance → ℕ → ℕ → MostUse
most_use p r v = record { most = base p v (Amount r) + demand_of p v r; machine = record { 0 = v } }

-- the first machines are in the list, and no other
pub record AreUses (p : Instance) (r many : ℕ) (xs : List MostUse) : Type 0 where
  pub each : (v : ℕ) → v < many → Contains xs (most_use p r v)
  pub machines : All (λ x. x.machine.0 < many) xs

-- all machines are, the one that uses the least first
pub record IsOrder (p : Instance) (r : ℕ) (xs : List MostUse) : Type 0 where
  pub uses : AreUses p r (machine_count p) xs
  pub climbs : IsNonDecreasingBy (λ x. x.most) xs

-- so it is of the first resources
pub record AreOrders (p : Instance) (many : ℕ) (xs : List (List MostUse)) : Type 0 where
  pub count : length xs ≡ many
  pub each : (r : ℕ) → r < many → IsOrder p r (slice_index_or xs r [])

-- the lists behind vectors
abbrev pub lists_of : List (Vec MostUse Global) → List (List MostUse)
lists_of xs = map (λ (x : Vec MostUse Global). x.items) xs

pub record IsFixed (p : Instance) (x : FixedView) : Type 0 where
  pub hosts : AreHosts p (machine_count p) x.hosts
  pub most : AreMostUses p (length p.resources) x.most
  pub bases : AreTotalBases p (length p.resources) x.bases
  pub orders : AreOrders p (length p.resources) x.orders
