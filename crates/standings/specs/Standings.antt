-- Where a machine surely stands on one node, by two numbers of its set of choices.
use Rattle.std.specs.Prelude.{◌≡◌, ℕ, ◌+◌, Bool, false, ◌&&◌, nat_le, nat_lt, List, [], ◌∷◌, Option, Some, None, if◌then◌else◌}
use Rattle.relax.specs.Prelude.{end_of, hosted_in, Instance, kind_of, least, one, state_of, surely, vm, weight_of}
use Rattle.cluster.specs.declared.{choices.Choice.Choice, choices.Choice.TheVariants.Idle, choices.Choice.TheVariants.Act, choices.Place.TheVariants.Nowhere, choices.Place.TheVariants.At, kinds.Kind.Kind, kinds.Kind.TheVariants.Forge, kinds.Kind.TheVariants.Boot, kinds.Kind.TheVariants.Shutdown, kinds.Kind.TheVariants.Suspend, kinds.Kind.TheVariants.Resume, kinds.Kind.TheVariants.Migrate, kinds.Kind.TheVariants.Allocate, kinds.Kind.TheVariants.Kill, kinds.Kind.TheVariants.NodeBoot, kinds.Kind.TheVariants.NodeShutdown, states.State.State, states.State.TheVariants.Init, states.State.TheVariants.Ready, states.State.TheVariants.Running, states.State.TheVariants.Sleeping, states.State.TheVariants.Gone}
use Rattle.slices.specs.declared.slice.{Weight.Weight, What.What, What.TheVariants.Use, What.TheVariants.Demand, What.TheVariants.Raise, What.TheVariants.Image}
use Rattle.standings.specs.declared.numbers.{Arrival.Arrival, Standing.Standing}

-- past every instant, which has 32 bits
abbrev pub never : ℕ
never = 4_294_967_296

-- ---- one choice

-- until when a machine keeps what it has on its host, by the kind of its action and its end: an allocation keeps it for ever,
-- what is no action keeps nothing
abbrev pub kept_until : Option Kind → ℕ → ℕ
kept_until None end = 0
kept_until (Some Forge) end = end
kept_until (Some Boot) end = end
kept_until (Some Shutdown) end = end
kept_until (Some Suspend) end = end
kept_until (Some Resume) end = end
kept_until (Some Migrate) end = end
kept_until (Some Allocate) end = never
kept_until (Some Kill) end = end
kept_until (Some NodeBoot) end = end
kept_until (Some NodeShutdown) end = end

-- until when it does under a choice
abbrev pub leave_of : Instance → ℕ → Choice → ℕ
leave_of p v Idle = never
leave_of p v (Act place start) = kept_until (kind_of p (vm v) place) (end_of p (vm v) (Act place start))

-- whether the action of a choice goes to node n, and has started by t
abbrev pub has_come : ℕ → ℕ → Choice → Bool
has_come n t Idle = false
has_come n t (Act Nowhere start) = false
has_come n t (Act (At m) start) = one n m.0 && nat_le start t

-- ---- a set of choices

-- whether the action of each choice does, of which there is one
abbrev pub have_come : ℕ → ℕ → List Choice → Bool
have_come n t [] = false
have_come n t (c ∷ cs) = surely (has_come n t) (c ∷ cs)

-- what an arrival, if there is one, says of that
abbrev pub comes_by : ℕ → ℕ → Option Arrival → Bool
comes_by n t None = false
comes_by n t (Some a) = one n a.node.0 && nat_le a.last t

-- the two numbers of a set of choices of machine v: until when each choice keeps the host, and whether and when all of them come to
-- one node
pub record IsStanding (p : Instance) (v : ℕ) (cs : List Choice) (k : Standing) : Type 0 where
  pub leave : k.leave ≡ least (leave_of p v) cs
  pub come : (n t : ℕ) → comes_by n t k.come ≡ have_come n t cs

-- ---- what the numbers say

-- what a machine has on its host at present
abbrev pub had_there : State → Option What
had_there Init = None
had_there Ready = None
had_there (Running h) = Some Use
had_there (Sleeping h) = Some Image
had_there Gone = None

-- what comes to the place of an action at its start
abbrev pub brought : Option Kind → Option What
brought None = None
brought (Some Forge) = None
brought (Some Boot) = Some Demand
brought (Some Shutdown) = None
brought (Some Suspend) = Some Image
brought (Some Resume) = Some Demand
brought (Some Migrate) = Some Demand
brought (Some Allocate) = Some Raise
brought (Some Kill) = None
brought (Some NodeBoot) = None
brought (Some NodeShutdown) = None

-- what that weighs, if it is something
abbrev pub weight_if : Instance → ℕ → Weight → Option What → ℕ
weight_if p v w None = 0
weight_if p v w (Some what) = weight_of p v w what

-- what a machine has on its host until it leaves, and what it brings to node n
abbrev pub base : Instance → ℕ → Weight → ℕ
base p v w = weight_if p v w (had_there (state_of p v))

abbrev pub gain : Instance → ℕ → Weight → ℕ → ℕ
gain p v w n = weight_if p v w (brought (kind_of p (vm v) (At (record { 0 = n }))))

-- what a machine with these numbers surely has on node n at t
abbrev pub kept_use : Instance → ℕ → Weight → ℕ → ℕ → Standing → ℕ
kept_use p v w n t k =
    (if hosted_in (state_of p v) (one n) && nat_lt t k.leave then base p v w else 0) + (if comes_by n t k.come then gain p v w n else 0)
