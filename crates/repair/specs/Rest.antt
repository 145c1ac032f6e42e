-- What is left of a problem and a plan once some actions have ended: the same instants, and another present.
use Rattle.std.specs.Prelude.{◌≡◌, ℕ, ◌+◌, not, List, map, Option, Some, None, option_map, slice_get, if◌then◌else◌}
use Rattle.std.specs.List.{range_with_len}
use Rattle.slices.specs.Prelude.{Choices, choices_of, cost_of, demand_of, end_of, Instance, IsPlanOf, IsValid, kind_of, machine_count, max_resources, node, node_count, PlanChoices, sum_to, vm}
use Rattle.cluster.specs.declared.{choices.Choice.Choice, choices.Choice.TheVariants.Act, choices.Choice.TheVariants.Idle, choices.Place.Place, choices.Place.TheVariants.At, choices.Place.TheVariants.Nowhere, ids.Element.Element, kinds.Kind.Kind, machines.Machine.Machine, states.State.State, states.State.TheVariants.Gone, states.State.TheVariants.Init}
use Rattle.cluster.specs.declared.kinds.Kind.TheVariants.{Forge, Boot, Shutdown, Suspend, Resume, Migrate, Allocate, Kill, NodeBoot, NodeShutdown}
use Rattle.cluster.specs.declared.nodes.Node.{Node}
use Rattle.cluster.specs.declared.states.State.TheVariants.{Ready, Running, Sleeping}
use Rattle.executor.specs.Phases.{is_ended, Phases}

-- ---- where an action leads

-- a machine runs at the place of its action
abbrev pub runs_at : State → Place → State
runs_at before (At n) = Running n
runs_at before Nowhere = before

-- one that runs sleeps on its host
abbrev pub sleeps_on_host : State → State
sleeps_on_host Init = Init
sleeps_on_host Ready = Ready
sleeps_on_host (Running h) = Sleeping h
sleeps_on_host (Sleeping h) = Sleeping h
sleeps_on_host Gone = Gone

-- the state to which an action of a kind leads
abbrev pub state_by : State → Kind → Place → State
state_by before Forge place = Ready
state_by before Boot place = runs_at before place
state_by before Shutdown place = Ready
state_by before Suspend place = sleeps_on_host before
state_by before Resume place = runs_at before place
state_by before Migrate place = runs_at before place
state_by before Allocate place = runs_at before place
state_by before Kill place = Gone
state_by before NodeBoot place = before
state_by before NodeShutdown place = before

-- where there is no action a machine stays as it is
abbrev pub state_after : State → Option Kind → Place → State
state_after before None place = before
state_after before (Some kind) place = state_by before kind place

-- what a machine in a state uses, where it used so much before: its demand if it runs
abbrev pub use_after : Instance → ℕ → State → List ℕ → List ℕ
use_after p v Init usage = usage
use_after p v Ready usage = usage
use_after p v (Running h) usage = map (demand_of p v) (range_with_len 0 max_resources)
use_after p v (Sleeping h) usage = usage
use_after p v Gone usage = usage

-- the same machine in another state
abbrev pub in_state : Instance → ℕ → State → Machine → Machine
in_state p v s m = record m { state = s; usage = use_after p v s m.usage }

abbrev pub machine_after : Instance → ℕ → Choice → Machine → Machine
machine_after p v Idle m = m
machine_after p v (Act place start) m = in_state p v (state_after m.state (kind_of p (vm v) place) place) m

-- a node that has booted is online, and one that has shut down is not
abbrev pub node_after : Choice → Node → Node
node_after Idle x = x
node_after (Act place start) x = record x { online = not x.online }

-- ---- what is left

-- the choices of what has ended, and those of all else, also of what has failed
abbrev pub done_choices : Choices → Phases → Choices
done_choices plan phases e = if is_ended (phases e) then plan e else Idle

abbrev pub rest_choices : Choices → Phases → Choices
rest_choices plan phases e = if is_ended (phases e) then Idle else plan e

-- the items of a list, each one changed as its place tells
abbrev pub AreChanged : {A : Type 0} → (ℕ → A → A) → List A → List A → Type 0
AreChanged change old new = (i : ℕ) → slice_get new i ≡ option_map (change i) (slice_get old i)

-- q is what is left of the problem p: its machines and nodes after what has ended, and all else alike
pub record IsRest (p : Instance) (plan : Choices) (phases : Phases) (q : Instance) : Type 0 where
  pub resources : q.resources ≡ p.resources
  pub durations : q.durations ≡ p.durations
  pub horizon : q.horizon ≡ p.horizon
  pub constraints : q.constraints ≡ p.constraints
  pub machines : AreChanged (λ v. machine_after p v (done_choices plan phases (vm v))) p.machines q.machines
  pub nodes : AreChanged (λ n. node_after (done_choices plan phases (node n))) p.nodes q.nodes

-- the sum of the ends of the actions that have not ended
abbrev pub open_cost : Instance → Choices → Phases → ℕ
open_cost p plan phases =
    sum_to (machine_count p) (λ v. if is_ended (phases (vm v)) then 0 else end_of p (vm v) (plan (vm v)))
    + sum_to (node_count p) (λ n. if is_ended (phases (node n)) then 0 else end_of p (node n) (plan (node n)))

-- the problem that is left, and for it a valid plan with the choices that are left
pub record IsGoingOn (p : Instance) (plan : Choices) (phases : Phases) (q : Instance) (after : PlanChoices) : Type 0 where
  pub problem : IsRest p plan phases q
  pub choices : (e : Element) → choices_of after e ≡ rest_choices plan phases e
  pub whole : IsPlanOf q after
  pub valid : IsValid q (choices_of after)
  pub costs : cost_of q (choices_of after) ≡ open_cost p plan phases
