-- What is where at one moment.
use Rattle.std.specs.Prelude.{ℕ, ◌+◌, ◌<◌, Bool, ◌||◌, length, nat_lt, if◌then◌else◌}
use Rattle.base.specs.Sums.{sum_to}
use Rattle.catalogue.specs.Prelude.{capacity_of, Instance, is_online}
use Rattle.cluster.specs.declared.choices.Choice.{Choice}
use Rattle.cluster.specs.declared.ids.Element.{Element}
use Rattle.slices.specs.declared.stage.Progress.{Progress}
use Rattle.slices.specs.declared.stage.Stage.{Stage}
use Rattle.slices.specs.declared.slice.Weight.{Weight}
use Rattle.slices.specs.declared.slice.Weight.TheVariants.{Amount, Presence, Image}
use Rattle.slices.specs.Elements.{machine_count, node_count, vm, node}
use Rattle.slices.specs.Actions.{choice_duration}
use Rattle.slices.specs.Plans.{Choices}
use Rattle.slices.specs.Stages.{Nodes, one, progress_of, stage_of, slices_of, weigh, usable_of, powered_of}

-- what is where, by the numbers of machines and nodes: the amounts, presences and images that a machine has on a set of nodes,
-- whether it is present there at all, which nodes are usable and powered, and how far a machine's action is
pub record Snapshot : Type 0 where
  pub held : ℕ → Weight → Nodes → ℕ
  pub present : ℕ → Nodes → Bool
  pub usable : ℕ → Bool
  pub powered : ℕ → Bool
  pub action : ℕ → Progress → Bool

-- what a machine holds on the nodes of a set, at a stage of its choice
unfoldable pub held_by : Instance → ℕ → Weight → Nodes → Choice → Stage → ℕ
held_by p v w set c g =
    weigh p v w (slices_of p v c).source g set + weigh p v w (slices_of p v c).target g set + weigh p v w (slices_of p v c).image g set

-- the snapshot of a plan whose elements are at these stages
unfoldable pub snapshot : Instance → Choices → (Element → Stage) → Snapshot
snapshot p plan stages = record {
  held = λ v w set. held_by p v w set (plan (vm v)) (stages (vm v));
  present = λ v set. nat_lt 0 (held_by p v Presence set (plan (vm v)) (stages (vm v)));
  usable = λ n. usable_of (is_online p.nodes n) (plan (node n)) (stages (node n));
  powered = λ n. powered_of (is_online p.nodes n) (plan (node n)) (stages (node n));
  action = λ v far. progress_of far (plan (vm v)) (stages (vm v));
}

-- the stage of an element's choice at an instant
unfoldable pub stage_at : Instance → Element → Choice → ℕ → Stage
stage_at p e c t = stage_of (choice_duration p e c) c t

-- the stages of a plan's elements at an instant
unfoldable pub stages_at : Instance → Choices → ℕ → Element → Stage
stages_at p plan t e = stage_at p e (plan e) t

-- the snapshot of a plan at an instant
abbrev pub snapshot_at : Instance → Choices → ℕ → Snapshot
snapshot_at p plan t = snapshot p plan (stages_at p plan t)

-- ---- the same of one element, as functions of its choice

unfoldable pub held_at : Instance → ℕ → Weight → Nodes → ℕ → Choice → ℕ
held_at p v w set t c = held_by p v w set c (stage_at p (vm v) c t)

abbrev pub present_at : Instance → ℕ → Nodes → ℕ → Choice → Bool
present_at p v set t c = nat_lt 0 (held_at p v Presence set t c)

unfoldable pub usable_at : Instance → ℕ → ℕ → Choice → Bool
usable_at p n t c = usable_of (is_online p.nodes n) c (stage_at p (node n) c t)

unfoldable pub powered_at : Instance → ℕ → ℕ → Choice → Bool
powered_at p n t c = powered_of (is_online p.nodes n) c (stage_at p (node n) c t)

unfoldable pub action_at : Instance → ℕ → Progress → ℕ → Choice → Bool
action_at p v far t c = progress_of far c (stage_at p (vm v) c t)

-- ---- sums over a snapshot

-- a resource whose amount is asked for is one of the instance
abbrev pub IsWeight : Instance → Weight → Type 0
IsWeight p (Amount r) = r < length p.resources
IsWeight p Presence = Unit {0}
IsWeight p Image = Unit {0}

-- what all machines hold on the nodes of a set
abbrev pub total : Instance → Snapshot → Weight → Nodes → ℕ
total p s w set = sum_to (machine_count p) (λ v. s.held v w set)

-- the uses of a resource on the nodes of a set
abbrev pub load : Instance → Snapshot → ℕ → Nodes → ℕ
load p s r set = total p s (Amount r) set

-- the capacities for a resource of the usable nodes of a set
abbrev pub room : Instance → Snapshot → ℕ → Nodes → ℕ
room p s r set = sum_to (node_count p) (λ n. if set n then (if s.usable n then capacity_of p n r else 0) else 0)

-- the number of presences on the nodes of a set
abbrev pub presences : Instance → Snapshot → Nodes → ℕ
presences p s set = total p s Presence set

-- the number of powered nodes of a set
abbrev pub powered_nodes : Instance → Snapshot → Nodes → ℕ
powered_nodes p s set = sum_to (node_count p) (λ n. if set n then (if s.powered n then 1 else 0) else 0)

-- whether a machine is present on a node or has its image there
abbrev pub stands_on : Snapshot → ℕ → ℕ → Bool
stands_on s v n = s.present v (one n) || nat_lt 0 (s.held v Image (one n))
