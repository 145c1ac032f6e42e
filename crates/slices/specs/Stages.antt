-- Stages of actions, and what a machine holds at a stage.
use Rattle.std.specs.Prelude.{ℕ, ◌+◌, ◌-◌, Bool, true, false, not, ◌&&◌, ◌==◌, nat_le, Option, Some, None, if◌then◌else◌}
use Rattle.catalogue.specs.Prelude.{demand_of, Instance, use_of}
use Rattle.cluster.specs.declared.choices.Choice.{Choice}
use Rattle.cluster.specs.declared.choices.Choice.TheVariants.{Idle, Act}
use Rattle.cluster.specs.declared.kinds.Kind.{Kind}
use Rattle.cluster.specs.declared.kinds.Kind.TheVariants.{Boot, Shutdown, Suspend, Resume, Migrate, Allocate, Kill}
use Rattle.cluster.specs.declared.ids.NodeId.{NodeId}
use Rattle.cluster.specs.declared.choices.Place.{Place}
use Rattle.cluster.specs.declared.choices.Place.TheVariants.{At}
use Rattle.cluster.specs.declared.states.State.{State}
use Rattle.cluster.specs.declared.states.State.TheVariants.{Ready, Running, Sleeping}
use Rattle.slices.specs.declared.slice.Slice.{Slice}
use Rattle.slices.specs.declared.slice.Slices.{Slices}
use Rattle.slices.specs.declared.slice.Span.{Span}
use Rattle.slices.specs.declared.slice.Span.TheVariants.{Always, FromStart, BeforeEnd}
use Rattle.slices.specs.declared.stage.Stage.{Stage}
use Rattle.slices.specs.declared.stage.Progress.{Progress}
use Rattle.slices.specs.declared.stage.Progress.TheVariants.{Started, Unended, Acting}
use Rattle.slices.specs.declared.slice.Weight.{Weight}
use Rattle.slices.specs.declared.slice.Weight.TheVariants.{Amount, Presence, Image}
use Rattle.slices.specs.declared.slice.What.{What}
use Rattle.slices.specs.declared.slice.What.TheVariants.{Use, Demand, Raise, Image as OfImage}
use Rattle.slices.specs.Elements.{state_of, vm}
use Rattle.slices.specs.Actions.{kind_of}

-- a set of nodes, by their numbers
abbrev pub Nodes : Type 0
Nodes = ℕ → Bool

-- the set of one node
abbrev pub one : ℕ → Nodes
one n k = k == n

-- ---- stages

-- the stage at an instant of an action from a start on, which lasts so long
abbrev pub stage_from : ℕ → ℕ → ℕ → Stage
stage_from start duration t = record { started = nat_le start t; ended = nat_le (start + duration) t }

-- the stage at an instant of a choice whose action lasts so long
abbrev pub stage_of : ℕ → Choice → ℕ → Stage
stage_of duration Idle t = record { started = false; ended = false }
stage_of duration (Act place start) t = stage_from start duration t

-- how far the action of a choice is: it has started, it has not ended, or both; an idle element has none
abbrev pub progress_of : Progress → Choice → Stage → Bool
progress_of far Idle g = false
progress_of Started (Act place start) g = g.started
progress_of Unended (Act place start) g = not g.ended
progress_of Acting (Act place start) g = g.started && not g.ended

-- a source counts until its action's end, a destination from its start
abbrev pub covers : Span → Stage → Bool
covers Always g = true
covers FromStart g = g.started
covers BeforeEnd g = not g.ended

-- ---- slices

abbrev pub slice : NodeId → Span → What → Option Slice
slice n span what = Some (record { node = n; span = span; what = what })

abbrev pub no_slices : Slices
no_slices = record { source = None; target = None; image = None }

-- what an idle machine holds: a running one its use, a sleeping one its image
abbrev pub idle_slices : State → Slices
idle_slices (Running h) = record { source = slice h Always Use; target = None; image = None }
idle_slices (Sleeping h) = record { source = None; target = None; image = slice h Always OfImage }
idle_slices state = no_slices

-- what a machine holds over its action, by its state, the kind and the place; an allocation adds the raise to the use
abbrev pub acting_slices : State → Kind → Place → Slices
acting_slices (Running h) Migrate (At n) = record { source = slice h BeforeEnd Use; target = slice n FromStart Demand; image = None }
acting_slices (Running h) Allocate place = record { source = slice h Always Use; target = slice h FromStart Raise; image = None }
acting_slices (Running h) Shutdown place = record { source = slice h BeforeEnd Use; target = None; image = None }
acting_slices (Running h) Kill place = record { source = slice h BeforeEnd Use; target = None; image = None }
acting_slices (Running h) Suspend place = record { source = slice h BeforeEnd Use; target = None; image = slice h FromStart OfImage }
acting_slices Ready Boot (At n) = record { source = None; target = slice n FromStart Demand; image = None }
acting_slices (Sleeping h) Resume (At n) = record { source = None; target = slice n FromStart Demand; image = slice h BeforeEnd OfImage }
acting_slices (Sleeping h) Kill place = record { source = None; target = None; image = slice h BeforeEnd OfImage }
acting_slices state kind place = no_slices

-- what a machine holds over its action, if there is one
unfoldable pub slices_by : State → Place → Option Kind → Slices
slices_by state place None = no_slices
slices_by state place (Some kind) = acting_slices state kind place

-- what a machine holds under a choice
unfoldable pub slices_of : Instance → ℕ → Choice → Slices
slices_of p v Idle = idle_slices (state_of p v)
slices_of p v (Act place start) = slices_by (state_of p v) place (kind_of p (vm v) place)

-- ---- what slices weigh

-- an amount of a resource; a presence, which a raise is not; an image
abbrev pub weight_of : Instance → ℕ → Weight → What → ℕ
weight_of p v (Amount r) Use = use_of p.machines v r
weight_of p v (Amount r) Demand = demand_of p v r
weight_of p v (Amount r) Raise = demand_of p v r - use_of p.machines v r
weight_of p v (Amount r) OfImage = 0
weight_of p v Presence Use = 1
weight_of p v Presence Demand = 1
weight_of p v Presence Raise = 0
weight_of p v Presence OfImage = 0
weight_of p v Image Use = 0
weight_of p v Image Demand = 0
weight_of p v Image Raise = 0
weight_of p v Image OfImage = 1

-- what a slice weighs on the nodes of a set at a stage
abbrev pub weigh : Instance → ℕ → Weight → Option Slice → Stage → Nodes → ℕ
weigh p v w None g set = 0
weigh p v w (Some s) g set = if set s.node.0 && covers s.span g then weight_of p v w s.what else 0

-- ---- nodes

-- a node that shuts down is usable until its start, one that boots from its end
abbrev pub usable_of : Bool → Choice → Stage → Bool
usable_of online Idle g = online
usable_of true (Act place start) g = not g.started
usable_of false (Act place start) g = g.ended

-- a node that shuts down is powered until its end, one that boots from its start
abbrev pub powered_of : Bool → Choice → Stage → Bool
powered_of online Idle g = online
powered_of true (Act place start) g = not g.ended
powered_of false (Act place start) g = g.started
