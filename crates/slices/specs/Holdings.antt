-- Helping only: what a machine holds at one moment, as the code tells it.
use Rattle.std.specs.Prelude.{◌≡◌, ℕ, ◌+◌, ◌<◌, Bool, true, false, ◌||◌, Option, Some, None, if◌then◌else◌}
use Rattle.cluster.specs.declared.choices.Choice.{Choice}
use Rattle.cluster.specs.declared.ids.NodeId.{NodeId}
use Rattle.catalogue.specs.Instance.{Instance}
use Rattle.slices.specs.declared.holding.Held.{Held}
use Rattle.slices.specs.declared.holding.Holding.{Holding}
use Rattle.slices.specs.declared.slice.Slice.{Slice}
use Rattle.slices.specs.declared.slice.Slices.{Slices}
use Rattle.slices.specs.declared.stage.Stage.{Stage}
use Rattle.slices.specs.declared.slice.Weight.{Weight}
use Rattle.slices.specs.declared.slice.Weight.TheVariants.{Amount, Presence, Image}
use Rattle.slices.specs.declared.slice.What.{What}
use Rattle.slices.specs.declared.slice.What.TheVariants.{Demand, Raise}
use Rattle.slices.specs.Elements.{node_count}
use Rattle.slices.specs.Snapshots.{Snapshot, held_at, present_at}
use Rattle.slices.specs.Stages.{Nodes, covers, weight_of}

abbrev pub is_raise : What → Bool
is_raise Raise = true
is_raise what = false

-- the amount of a resource on the nodes of a set
abbrev pub amount_in : Instance → ℕ → ℕ → Nodes → Option Held → ℕ
amount_in p v r set None = 0
amount_in p v r set (Some x) = if set x.node.0 then weight_of p v (Amount r) x.what else 0

-- the number of presences on the nodes of a set
abbrev pub count_in : Nodes → Option Held → ℕ
count_in set None = 0
count_in set (Some x) = if set x.node.0 then 1 else 0

-- whether there is a presence on the nodes of a set
abbrev pub is_in : Nodes → Option Held → Bool
is_in set None = false
is_in set (Some x) = set x.node.0

-- the number of images on the nodes of a set
abbrev pub image_in : Nodes → Option NodeId → ℕ
image_in set None = 0
image_in set (Some n) = if set n.0 then 1 else 0

-- the node, if there is one, is one of so many
abbrev pub IsHeldWithin : ℕ → Option Held → Type 0
IsHeldWithin nodes None = Unit {0}
IsHeldWithin nodes (Some x) = x.node.0 < nodes

abbrev pub IsNodeWithin : ℕ → Option NodeId → Type 0
IsNodeWithin nodes None = Unit {0}
IsNodeWithin nodes (Some n) = n.0 < nodes

-- ---- what is held of slices

-- the part of a slice that is held at a stage
abbrev pub held_of : Option Slice → Stage → Option Held
held_of None g = None
held_of (Some s) g = if covers s.span g then Some (record { node = s.node; what = s.what }) else None

abbrev pub node_of : Option Held → Option NodeId
node_of None = None
node_of (Some x) = Some x.node

-- a raise joins the use to which it adds
abbrev pub with_raise : Option Held → Option Held → Option NodeId → Holding
with_raise source None image = record { source = source; target = None; image = image }
with_raise source (Some x) image =
    if is_raise x.what then record { source = Some (record { node = x.node; what = Demand }); target = None; image = image }
    else record { source = source; target = Some x; image = image }

abbrev pub holding_of : Slices → Stage → Holding
holding_of x g = with_raise (held_of x.source g) (held_of x.target g) (node_of (held_of x.image g))

-- ---- what a holding says

-- this is all that machine v holds, where its weights and presences on sets of nodes are these
pub record IsHolding (p : Instance) (v : ℕ) (weights : Weight → Nodes → ℕ) (presence : Nodes → Bool) (h : Holding) : Type 0 where
  pub amounts : (r : ℕ) (set : Nodes) → weights (Amount r) set ≡ amount_in p v r set h.source + amount_in p v r set h.target
  pub presences : (set : Nodes) → weights Presence set ≡ count_in set h.source + count_in set h.target
  pub present : (set : Nodes) → presence set ≡ (is_in set h.source || is_in set h.target)
  pub images : (set : Nodes) → weights Image set ≡ image_in set h.image
  pub source : IsHeldWithin (node_count p) h.source
  pub target : IsHeldWithin (node_count p) h.target
  pub image : IsNodeWithin (node_count p) h.image

-- this is all that machine v holds in a snapshot
abbrev pub IsHoldingOf : Instance → Snapshot → ℕ → Holding → Type 0
IsHoldingOf p s v h = IsHolding p v (s.held v) (s.present v) h

-- this is all that machine v holds at an instant of a choice
abbrev pub IsHoldingAt : Instance → ℕ → Choice → ℕ → Holding → Type 0
IsHoldingAt p v c t h = IsHolding p v (λ w set. held_at p v w set t c) (λ set. present_at p v set t c) h
