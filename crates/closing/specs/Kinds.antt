-- The watches: the load of one node and of all nodes, each constraint, and whether a node that is needed is usable.
use Rattle.std.specs.Prelude.{◌≡◌, ◌⊎◌, ℕ, ◌<◌, ◌||◌, length, slice_get, Option, Some, None, IsTrue}
use Rattle.relax.specs.Prelude.{all_nodes, Allowed, Apart, Between, Bounded, Each, Form, form_of, FromOthers, has_node, Instance, InTurn, is_continuous, IsGroup, IsInPart, IsMember, IsOverload, IsPair, IsPlace, IsPower, IsSetLoad, IsUnusable, machine_count, node_count, Nodes, one, Ordered, Powered, Separation, Settled, Snapshot, Together}
use Rattle.catalogue.specs.declared.constraint.Constraint.{Constraint}
use Rattle.slices.specs.declared.slice.Weight.{Weight, TheVariants.Amount, TheVariants.Image}
use Rattle.closing.specs.Watches.{Scope, Watch}

-- ---- loads

-- of some resource the uses on the nodes of a set exceed the capacities of those that are usable
abbrev pub IsOverloaded : Instance → Nodes → Snapshot → Type 0
IsOverloaded p set s = (r : ℕ) × (r < length p.resources) × IsOverload p s r set

-- what machines use on the set, and which of its nodes are usable
abbrev pub load_scope : Nodes → Scope
load_scope set = record {
  held = λ v w nodes. (r : ℕ) × (w ≡ Amount r) × (nodes ≡ set);
  present = λ v nodes. ⊥;
  usable = λ n. IsTrue (set n);
  powered = λ n. ⊥;
  action = λ v far. ⊥;
}

abbrev pub load_on : Instance → Nodes → Watch
load_on p set = record { scope = load_scope set; broken = λ s last. IsOverloaded p set s }

-- the load of one node, and that of all nodes together
abbrev pub load_watch : Instance → ℕ → Watch
load_watch p n = load_on p (one n)

abbrev pub total_load_watch : Instance → Watch
total_load_watch p = load_on p (all_nodes p)

-- ---- usable nodes

-- some machine is on the node or has its image there, and the node is not usable
abbrev pub IsNeeded : Instance → ℕ → Snapshot → Type 0
IsNeeded p n s = (v : ℕ) × (v < machine_count p) × IsUnusable s v n

abbrev pub usable_watch : Instance → ℕ → Watch
usable_watch p n = record {
  scope = record {
    held = λ v w nodes. (w ≡ Image) × (nodes ≡ one n);
    present = λ v nodes. nodes ≡ one n;
    usable = λ m. m ≡ n;
    powered = λ m. ⊥;
    action = λ v far. ⊥;
  };
  broken = λ s last. IsNeeded p n s;
}

-- ---- constraints

-- two machines of the instance that the constraint keeps apart are on one of its nodes
abbrev pub HasPair : Instance → Snapshot → Constraint → Type 0
HasPair p s k =
    (v : ℕ) × (w : ℕ) × (n : ℕ) × (v < machine_count p) × (w < machine_count p) × (n < node_count p) × IsPair p s k v w n

-- a machine is on a node where the constraint lets it not be
abbrev pub HasPlace : Instance → Snapshot → Constraint → Type 0
HasPlace p s k = (v : ℕ) × (n : ℕ) × (v < machine_count p) × (n < node_count p) × IsPlace p s k v n

-- by one of the five kinds of reasons that constraints give
abbrev pub IsBroken : Instance → Snapshot → Constraint → Type 0
IsBroken p s k = HasPair p s k ⊎ (HasPlace p s k ⊎ (IsGroup p s k ⊎ (IsSetLoad p s k ⊎ IsPower p s k)))

abbrev pub nothing : Scope
nothing = record { held = λ v w nodes. ⊥; present = λ v nodes. ⊥; usable = λ n. ⊥; powered = λ n. ⊥; action = λ v far. ⊥ }

-- where the machines are that pass a test; how far their actions are; what all machines hold on a set of nodes
abbrev pub presences_of : (ℕ → Type 0) → Scope
presences_of passes = record { held = λ v w nodes. ⊥; present = λ v nodes. passes v; usable = λ n. ⊥; powered = λ n. ⊥; action = λ v far. ⊥ }

abbrev pub actions_of : (ℕ → Type 0) → Scope
actions_of passes = record { held = λ v w nodes. ⊥; present = λ v nodes. ⊥; usable = λ n. ⊥; powered = λ n. ⊥; action = λ v far. passes v }

abbrev pub weights_on : Weight → Nodes → Scope
weights_on weight set =
    record { held = λ v w nodes. (w ≡ weight) × (nodes ≡ set); present = λ v nodes. ⊥; usable = λ n. ⊥; powered = λ n. ⊥; action = λ v far. ⊥ }

abbrev pub powered_in_set : Nodes → Scope
powered_in_set set = record { held = λ v w nodes. ⊥; present = λ v nodes. ⊥; usable = λ n. ⊥; powered = λ n. IsTrue (set n); action = λ v far. ⊥ }

-- what each form looks at: where members are, or where all machines are, where members are kept apart from all others
abbrev pub separation_scope : Separation → Scope
separation_scope (Each vs) = presences_of (IsMember vs)
separation_scope (Between parts) = presences_of (λ v. (i : ℕ) × IsInPart parts i v)
separation_scope (FromOthers vs) = presences_of (λ v. Unit {0})

abbrev pub form_scope : Form → Scope
form_scope (Apart separation) = separation_scope separation
form_scope (Allowed vs places) = presences_of (IsMember vs)
form_scope (Together vs groups) = presences_of (IsMember vs)
form_scope (Ordered before after) = actions_of (λ v. (v ≡ before.0) ⊎ (v ≡ after.0))
form_scope (InTurn vs) = actions_of (IsMember vs)
form_scope (Bounded weight ns amount) = weights_on weight (has_node ns)
form_scope (Powered ns amount) = powered_in_set (has_node ns)
form_scope Settled = nothing

-- and so a constraint of that form
abbrev pub scope_of : Constraint → Scope
scope_of k = form_scope (form_of k)

abbrev pub rule_watch : Instance → Constraint → Watch
rule_watch p k = record { scope = scope_of k; broken = λ s last. IsTrue (is_continuous k || last) × IsBroken p s k }

-- the constraint of a number, where there is one and it applies
abbrev pub watch_of : Instance → Option Constraint → Watch
watch_of p None = record { scope = nothing; broken = λ s last. ⊥ }
watch_of p (Some k) = rule_watch p k

abbrev pub constraint_watch : Instance → ℕ → Watch
constraint_watch p c = watch_of p (slice_get p.constraints c)
