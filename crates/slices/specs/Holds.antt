-- When a constraint holds, by its form.
use Rattle.std.specs.Prelude.{◌≡◌, ◌≢◌, ◌⊎◌, ℕ, ◌<◌, ◌≤◌, Bool, false, not, ◌==◌, List, [], map, Any, slice_index_or, IsTrue}
use Rattle.std.specs.List.{range_with_len}
use Rattle.catalogue.specs.Prelude.{has_node, Instance, is_member}
use Rattle.cluster.specs.declared.states.State.{State}
use Rattle.cluster.specs.declared.states.State.TheVariants.{Init, Ready as IsReady, Running as Runs, Sleeping as Sleeps, Gone}
use Rattle.cluster.specs.declared.ids.VmId.{VmId}
use Rattle.catalogue.specs.declared.constraint.Constraint.{Constraint}
use Rattle.slices.specs.declared.stage.Progress.TheVariants.{Started, Unended, Acting}
use Rattle.slices.specs.Elements.{machine_count, node_count, state_of}
use Rattle.slices.specs.Forms.{Form, Apart, Allowed, Together, Ordered, InTurn, Bounded, Powered, Settled, Groups, AnyNode, AnyOf, Places, Outside, Within, OnHost, Separation, Each, Between, FromOthers, form_of}
use Rattle.slices.specs.Stages.{Nodes, one}
use Rattle.slices.specs.Snapshots.{Snapshot, powered_nodes, total}

-- ---- which machines a constraint keeps apart, where it lets none be, and which nodes it wants together

-- the machine is in the list
abbrev pub IsMember : List VmId → ℕ → Type 0
IsMember vs v = IsTrue (is_member vs v)

-- the machine is in the part of a number
abbrev pub IsInPart : List (List VmId) → ℕ → ℕ → Type 0
IsInPart parts i v = IsMember (slice_index_or parts i []) v

-- two machines that are kept apart: two members, members of two parts, a member and a machine that is none
abbrev pub Separates : Separation → ℕ → ℕ → Type 0
Separates (Each vs) v w = IsMember vs v × IsMember vs w × (v ≢ w)
Separates (Between parts) v w = (i : ℕ) × (j : ℕ) × (i ≢ j) × IsInPart parts i v × IsInPart parts j w
Separates (FromOthers vs) v w = IsMember vs v × ¬ IsMember vs w

-- a machine that runs at present, on another node
abbrev pub runs_elsewhere : State → ℕ → Bool
runs_elsewhere (Runs h) n = not (h.0 == n)
runs_elsewhere Init n = false
runs_elsewhere IsReady n = false
runs_elsewhere (Sleeps h) n = false
runs_elsewhere Gone n = false

-- a member may not be on the node: on one of a set that it is kept out of, on one out of a set that it is kept in, on another than its
-- host if it runs at present
abbrev pub IsOffLimits : Instance → Places → ℕ → ℕ → Type 0
IsOffLimits p (Outside ns) v n = IsTrue (has_node ns n)
IsOffLimits p (Within ns) v n = has_node ns n ≡ false
IsOffLimits p OnHost v n = IsTrue (runs_elsewhere (state_of p v) n)

-- the groups, as sets of nodes
abbrev pub group_sets : Instance → Groups → List Nodes
group_sets p AnyNode = map one (range_with_len 0 (node_count p))
group_sets p (AnyOf groups) = map has_node groups

-- a form lets two machines share no node
abbrev pub FormForbidsPair : Form → ℕ → ℕ → Type 0
FormForbidsPair (Apart separation) v w = Separates separation v w
FormForbidsPair (Allowed vs places) v w = ⊥
FormForbidsPair (Together vs groups) v w = ⊥
FormForbidsPair (Ordered before after) v w = ⊥
FormForbidsPair (InTurn vs) v w = ⊥
FormForbidsPair (Bounded weight ns amount) v w = ⊥
FormForbidsPair (Powered ns amount) v w = ⊥
FormForbidsPair Settled v w = ⊥

-- a form lets a machine not be on a node
abbrev pub FormForbidsPlace : Instance → Form → ℕ → ℕ → Type 0
FormForbidsPlace p (Apart separation) v n = ⊥
FormForbidsPlace p (Allowed vs places) v n = IsMember vs v × IsOffLimits p places v n
FormForbidsPlace p (Together vs groups) v n = ⊥
FormForbidsPlace p (Ordered before after) v n = ⊥
FormForbidsPlace p (InTurn vs) v n = ⊥
FormForbidsPlace p (Bounded weight ns amount) v n = ⊥
FormForbidsPlace p (Powered ns amount) v n = ⊥
FormForbidsPlace p Settled v n = ⊥

-- and so does a constraint of that form
abbrev pub ForbidsPair : Constraint → ℕ → ℕ → Type 0
ForbidsPair c = FormForbidsPair (form_of c)

abbrev pub ForbidsPlace : Instance → Constraint → ℕ → ℕ → Type 0
ForbidsPlace p c = FormForbidsPlace p (form_of c)

-- ---- what holds of a snapshot

-- no node has presences of both machines of a pair that is kept apart
abbrev pub AreApart : Instance → Snapshot → Separation → Type 0
AreApart p s separation =
    (n v w : ℕ) → n < node_count p → v < machine_count p → w < machine_count p → Separates separation v w →
    IsTrue (s.present v (one n)) → s.present w (one n) ≡ false

-- no member is present on a node that is off limits for it
abbrev pub AreAllowed : Instance → Snapshot → List VmId → Places → Type 0
AreAllowed p s vs places =
    (v n : ℕ) → v < machine_count p → n < node_count p → IsMember vs v × IsOffLimits p places v n → s.present v (one n) ≡ false

-- no member is present at all
abbrev pub AreAbsent : Instance → Snapshot → List VmId → Type 0
AreAbsent p s vs =
    (v n : ℕ) → v < machine_count p → n < node_count p → IsMember vs v → s.present v (one n) ≡ false

-- the members are present on nodes of the set only
abbrev pub AreWithin : Instance → Snapshot → List VmId → Nodes → Type 0
AreWithin p s vs set =
    (v n : ℕ) → v < machine_count p → n < node_count p → IsMember vs v → IsTrue (s.present v (one n)) → IsTrue (set n)

-- no member is present, or one of the groups has all presences of members
abbrev pub AreGrouped : Instance → Snapshot → List VmId → List Nodes → Type 0
AreGrouped p s vs groups = AreAbsent p s vs ⊎ Any (AreWithin p s vs) groups

-- no two members act
abbrev pub TakeTurns : Instance → Snapshot → List VmId → Type 0
TakeTurns p s vs =
    (v w : ℕ) → v < machine_count p → w < machine_count p → v ≢ w → IsMember vs v → IsMember vs w →
    IsTrue (s.action v Acting) → s.action w Acting ≡ false

-- a form is kept by what is where
abbrev pub IsKept : Instance → Snapshot → Form → Type 0
IsKept p s (Apart separation) = AreApart p s separation
IsKept p s (Allowed vs places) = AreAllowed p s vs places
IsKept p s (Together vs groups) = AreGrouped p s vs (group_sets p groups)
-- `after` has not started where `before` has not ended
IsKept p s (Ordered before after) = IsTrue (s.action after.0 Started) → s.action before.0 Unended ≡ false
IsKept p s (InTurn vs) = TakeTurns p s vs
IsKept p s (Bounded weight ns amount) = total p s weight (has_node ns) ≤ amount
IsKept p s (Powered ns amount) = powered_nodes p s (has_node ns) ≤ amount
IsKept p s Settled = Unit {0}

-- the constraint holds of what is where
abbrev pub Holds : Instance → Snapshot → Constraint → Type 0
Holds p s c = IsKept p s (form_of c)
