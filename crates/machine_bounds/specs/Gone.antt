-- Helping only: before when it is known that a machine does not start at a node.
use Rattle.std.specs.Prelude.{◌≡◌, ℕ, ◌+◌, ◌*◌, ◌/◌, ◌%◌, ◌<◌, ◌≤◌, List, slice_index_or}
use Rattle.std.specs.Int.{bit_at}
use Rattle.std.specs.List.{Contains}
use Rattle.relax.specs.Prelude.{max_nodes, Sets, vm}
use Rattle.standings.specs.Levels.{Levels}
use Rattle.cluster.specs.declared.choices.Choice.{Choice}
use Rattle.cluster.specs.declared.choices.Choice.TheVariants.{Act}
use Rattle.cluster.specs.declared.choices.Place.TheVariants.{At}

-- no choice starts at node n before an instant
pub record StartsFrom (cs : List Choice) (n from : ℕ) : Type 0 where
  pub late : (start : ℕ) → Contains cs (Act (At (record { 0 = n })) start) → from ≤ start

-- how many instants there are for which a bit is kept of each machine: for each node two
abbrev pub bound_count : ℕ
bound_count = 2 * max_nodes

-- where the word of machine v stands that has its bit for instant i
abbrev pub gone_at : ℕ → ℕ → ℕ
gone_at v i = v * (bound_count / 64) + i / 64

-- the instants, and the words of all machines at each level
pub record GoneView : Type 0 where
  pub bounds : List ℕ
  pub words : Levels ℕ

-- each machine whose bit for an instant is set does not start at the node of it before
pub record AreGone (s : Sets) (bounds gs : List ℕ) : Type 0 where
  pub each : (v i : ℕ) → i < bound_count → bit_at (slice_index_or gs (gone_at v i) 0) (i % 64) ≡ 1 → StartsFrom (s (vm v)) (i % max_nodes) (slice_index_or bounds i 0)
