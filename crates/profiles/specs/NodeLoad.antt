-- What a node surely holds of a resource at each instant, by the numbers of the machines.
use Rattle.std.specs.Prelude.{◌≡◌, ℕ, ◌+◌, ◌<◌, ◌≤◌, List, length, nat_lt, slice_index_or, if◌then◌else◌}
use Rattle.relax.specs.Prelude.{hosted_in, Instance, machine_count, max_amount, max_machines, one, Sets, state_of, sum_to}
use Rattle.slices.specs.declared.slice.Weight.TheVariants.{Amount}
use Rattle.standings.specs.Prelude.{AreStanding, base, comes_by, gain, no_standing, Tables}
use Rattle.standings.specs.declared.numbers.Standing.{Standing}
use Rattle.profiles.specs.declared.node_load.share.Share.{Share}

-- what a contract sees of a `Profile`: its node and resource, what each machine has and brings there, and the numbers of all machines
-- at each level
pub record ProfileView : Type 0 where
  pub node : ℕ
  pub resource : ℕ
  pub shares : List Share
  pub table : Tables

-- ---- what each machine adds

abbrev pub no_share : Share
no_share = record { base = 0; gain = 0 }

-- what machine v has of resource r on node n until it leaves, and what it brings there
pub record IsShare (p : Instance) (n r v : ℕ) (x : Share) : Type 0 where
  pub base : x.base ≡ (if hosted_in (state_of p v) (one n) then base p v (Amount r) else 0)
  pub gain : x.gain ≡ gain p v (Amount r) n

-- so it is for the first machines
pub record AreShares (p : Instance) (n r many : ℕ) (xs : List Share) : Type 0 where
  pub count : length xs ≡ many
  pub each : (v : ℕ) → v < many → IsShare p n r v (slice_index_or xs v no_share)

-- the profile has the shares of all machines of the instance, and their numbers in the sets
pub record IsProfile (p : Instance) (s : Sets) (x : ProfileView) : Type 0 where
  pub shares : AreShares p x.node x.resource (machine_count p) x.shares
  pub standing : AreStanding p s x.table.top

-- ---- what is added up

-- what a machine with these numbers adds at t
abbrev pub share_use : ℕ → ℕ → Share → Standing → ℕ
share_use n t x k = (if nat_lt t k.leave then x.base else 0) + (if comes_by n t k.come then x.gain else 0)

abbrev pub total_use : ℕ → ℕ → List Share → List Standing → ℕ
total_use n t xs ks = sum_to (length xs) (λ v. share_use n t (slice_index_or xs v no_share) (slice_index_or ks v no_standing))

-- ---- how great it is

pub record IsSmall (x : Share) : Type 0 where
  pub base : x.base ≤ max_amount
  pub gain : x.gain ≤ max_amount

pub record AreSmall (xs : List Share) : Type 0 where
  pub few : length xs ≤ max_machines
  pub each : (v : ℕ) → v < length xs → IsSmall (slice_index_or xs v no_share)
