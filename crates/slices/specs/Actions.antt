-- The action that brings an element to what is wanted of it, how long it lasts, and which choices are legal.
use Rattle.std.specs.Prelude.{ℕ, ◌+◌, ◌*◌, Bool, true, false, not, ◌&&◌, ◌==◌, nat_le, length, Option, Some, None, is_some, unwrap_or, slice_get, slice_index_or, if◌then◌else◌}
use Rattle.std.specs.List.{list_any, range_with_len}
use Rattle.std.specs.Option.{option_map_or}
use Rattle.catalogue.specs.Prelude.{demand_of, Instance, is_online, kind_number, use_of, wanted_of, written_of}
use Rattle.cluster.specs.declared.choices.Choice.{Choice}
use Rattle.cluster.specs.declared.choices.Choice.TheVariants.{Idle, Act}
use Rattle.cluster.specs.declared.durations.Duration.{Duration}
use Rattle.cluster.specs.declared.ids.Element.{Element}
use Rattle.cluster.specs.declared.ids.Element.TheVariants.{Vm, Node as TheNode}
use Rattle.cluster.specs.declared.kinds.Kind.{Kind}
use Rattle.cluster.specs.declared.kinds.Kind.TheVariants.{Forge, Boot, Shutdown, Suspend, Resume, Migrate, Allocate, Kill, NodeBoot, NodeShutdown}
use Rattle.cluster.specs.declared.choices.Place.{Place}
use Rattle.cluster.specs.declared.choices.Place.TheVariants.{Nowhere, At}
use Rattle.cluster.specs.declared.states.State.{State}
use Rattle.cluster.specs.declared.states.State.TheVariants.{Init, Ready, Running, Sleeping, Gone}
use Rattle.cluster.specs.declared.machines.Machine.{Machine}
use Rattle.cluster.specs.declared.nodes.Node.{Node}
use Rattle.catalogue.specs.declared.targets.Target.TheVariants.{Online as ToOnline, Offline as ToOffline, Running as ToRunning, Sleeping as ToSleeping, Ready as ToReady, Killed as ToKilled}
use Rattle.catalogue.specs.declared.targets.Wish.{Wish}
use Rattle.catalogue.specs.declared.targets.Wish.TheVariants.{Keep, To, Clash}
use Rattle.slices.specs.Elements.{is_place, state_of, vm}

-- ---- which action

-- what is wanted of a machine at the end: without a wish it keeps its state (which no wish says of Init)
abbrev pub end_wish : State → Wish → Wish
end_wish Ready Keep = To ToReady
end_wish (Running h) Keep = To ToRunning
end_wish (Sleeping h) Keep = To ToSleeping
end_wish Gone Keep = To ToKilled
end_wish state wish = wish

-- the kind of the action that takes a machine from its state to the wanted one, at a place; raised says whether its demand is
abbrev pub machine_kind : State → Wish → Bool → Place → Option Kind
machine_kind Init (To ToReady) raised Nowhere = Some Forge
machine_kind Ready (To ToRunning) raised (At n) = Some Boot
machine_kind Ready (To ToKilled) raised Nowhere = Some Kill
machine_kind (Running h) (To ToRunning) raised (At n) = if n.0 == h.0 then (if raised then Some Allocate else None) else Some Migrate
machine_kind (Running h) (To ToReady) raised Nowhere = Some Shutdown
machine_kind (Running h) (To ToSleeping) raised (At n) = if n.0 == h.0 then Some Suspend else None
machine_kind (Running h) (To ToKilled) raised Nowhere = Some Kill
machine_kind (Sleeping h) (To ToRunning) raised (At n) = Some Resume
machine_kind (Sleeping h) (To ToKilled) raised Nowhere = Some Kill
machine_kind state wish raised place = None

-- whether a machine may be idle: it is in the wanted state, and if it runs its demand is not raised
abbrev pub may_machine_idle : State → Wish → Bool → Bool
may_machine_idle Init Keep raised = true
may_machine_idle Ready (To ToReady) raised = true
may_machine_idle (Running h) (To ToRunning) raised = not raised
may_machine_idle (Sleeping h) (To ToSleeping) raised = true
may_machine_idle Gone (To ToKilled) raised = true
may_machine_idle state wish raised = false

-- the kind of a node's action: an online one that is not wanted online may shut down, an offline one that is not wanted offline may boot
abbrev pub node_kind : Bool → Wish → Place → Option Kind
node_kind online Clash place = None
node_kind online wish (At n) = None
node_kind true (To ToOnline) Nowhere = None
node_kind true wish Nowhere = Some NodeShutdown
node_kind false (To ToOffline) Nowhere = None
node_kind false wish Nowhere = Some NodeBoot

-- whether a node may be idle: an online one where it is not wanted offline, an offline one where it is not wanted online
abbrev pub may_node_idle : Bool → Wish → Bool
may_node_idle online Clash = false
may_node_idle true (To ToOffline) = false
may_node_idle true wish = true
may_node_idle false (To ToOnline) = false
may_node_idle false wish = true

abbrev pub differs_in : Instance → ℕ → ℕ → Bool
differs_in p v r = not (demand_of p v r == use_of p.machines v r)

-- a machine's demand is raised where it differs from the present use in some resource
abbrev pub is_raised : Instance → ℕ → Bool
is_raised p v = list_any (differs_in p v) (range_with_len 0 (length p.resources))

abbrev pub wanted_state : Instance → ℕ → Wish
wanted_state p v = end_wish (state_of p v) (wanted_of p (vm v))

-- the kind of an element's action at a place, if it has a legal one there
unfoldable pub kind_of : Instance → Element → Place → Option Kind
kind_of p (Vm v) place =
    if is_place p place then machine_kind (state_of p v.0) (wanted_state p v.0) (is_raised p v.0) place else None
kind_of p (TheNode n) place = node_kind (is_online p.nodes n.0) (wanted_of p (TheNode n)) place

-- whether an element may be idle
unfoldable pub may_idle : Instance → Element → Bool
may_idle p (Vm v) = may_machine_idle (state_of p v.0) (wanted_state p v.0) (is_raised p v.0)
may_idle p (TheNode n) = may_node_idle (is_online p.nodes n.0) (wanted_of p (TheNode n))

-- ---- how long

abbrev pub machine_own : Option Machine → ℕ → Option Duration
machine_own None k = None
machine_own (Some m) k = slice_index_or m.own k None

abbrev pub node_own : Option Node → ℕ → Option Duration
node_own None k = None
node_own (Some x) k = slice_index_or x.own k None

-- an element's own duration of a kind, if it has one
abbrev pub own_of : Instance → Element → Kind → Option Duration
own_of p (Vm v) kind = machine_own (slice_get p.machines v.0) (kind_number kind)
own_of p (TheNode n) kind = node_own (slice_get p.nodes n.0) (kind_number kind)

-- the cluster's duration of a kind
abbrev pub common_of : Instance → Kind → Duration
common_of p kind = slice_index_or p.durations (kind_number kind) (record { base = 1; per = 0; resource = None })

-- the amounts that durations count: what a machine uses at present, the written capacity of a node
abbrev pub duration_amount : Instance → Element → ℕ → ℕ
duration_amount p (Vm v) r = use_of p.machines v.0 r
duration_amount p (TheNode n) r = written_of p.nodes n.0 r

abbrev pub amount_at : Option ℕ → (ℕ → ℕ) → ℕ
amount_at None amounts = 0
amount_at (Some r) amounts = amounts r

-- base + per * amount
abbrev pub value_of : Duration → (ℕ → ℕ) → ℕ
value_of d amounts = d.base + d.per * amount_at d.resource amounts

-- how long an element's action of a kind lasts: by its own duration, or else by the cluster's
unfoldable pub duration_of : Instance → Element → Kind → ℕ
duration_of p e kind = value_of (unwrap_or (own_of p e kind) (common_of p kind)) (duration_amount p e)

-- ---- choices

-- how long an action lasts, 0 where there is none
unfoldable pub kind_duration : Instance → Element → Option Kind → ℕ
kind_duration p e kind = option_map_or (duration_of p e) kind 0

-- how long an element's action at a place lasts, whenever it starts
unfoldable pub action_duration : Instance → Element → Place → ℕ
action_duration p e place = kind_duration p e (kind_of p e place)

-- how long the action of a choice lasts
abbrev pub choice_duration : Instance → Element → Choice → ℕ
choice_duration p e Idle = 0
choice_duration p e (Act place start) = action_duration p e place

-- when the action of a choice ends, 0 where there is none
unfoldable pub end_of : Instance → Element → Choice → ℕ
end_of p e Idle = 0
end_of p e (Act place start) = start + action_duration p e place

-- a choice is legal where it is one of the table, and its action ends by the horizon
unfoldable pub is_legal : Instance → Element → Choice → Bool
is_legal p e Idle = may_idle p e
is_legal p e (Act place start) = is_some (kind_of p e place) && nat_le (end_of p e (Act place start)) p.horizon
