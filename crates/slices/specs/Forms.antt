-- The form of a constraint: what it asks of what is where. All that holds of constraints, and all that looks at them, goes by the few
-- forms; the table below is the one place that says which kind has which.
use Rattle.std.specs.Prelude.{◌≡◌, ℕ, List, [], ◌∷◌, length, nat_lt, true}
use Rattle.catalogue.specs.Prelude.{all_of, are_below, differ, Instance, inventory_of, is_rule}
use Rattle.cluster.specs.declared.ids.VmId.{VmId}
use Rattle.cluster.specs.declared.sets.NodeSet.{NodeSet}
use Rattle.catalogue.specs.declared.constraint.Constraint.{Constraint}
use Rattle.catalogue.specs.declared.constraint.Constraint.TheVariants.{Spread, Ban, Fence, Gather, Lonely, Among, Split, Root, Precedence, Serialize, Preserve, ResourceCapacity, RunningCapacity, MaxOnline, Overbook, Online, Offline, Running, Sleeping, Ready, Killed}
use Rattle.slices.specs.declared.form.Form.{Form as Lent}
use Rattle.slices.specs.declared.form.Form.TheVariants.{Apart as LentApart, Allowed as LentAllowed, Together as LentTogether, Ordered as LentOrdered, InTurn as LentInTurn, Bounded as LentBounded, Powered as LentPowered, Settled as LentSettled}
use Rattle.slices.specs.declared.form.Groups.{Groups as LentGroups}
use Rattle.slices.specs.declared.form.Groups.TheVariants.{AnyNode as LentAnyNode, AnyOf as LentAnyOf}
use Rattle.slices.specs.declared.form.Places.{Places as LentPlaces}
use Rattle.slices.specs.declared.form.Places.TheVariants.{Outside as LentOutside, Within as LentWithin, OnHost as LentOnHost}
use Rattle.slices.specs.declared.form.Separation.{Separation as LentSeparation}
use Rattle.slices.specs.declared.form.Separation.TheVariants.{Each as LentEach, Between as LentBetween, FromOthers as LentFromOthers}
use Rattle.slices.specs.declared.slice.Weight.{Weight}
use Rattle.slices.specs.declared.slice.Weight.TheVariants.{Amount, Presence}
use Rattle.slices.specs.Elements.{machine_count}
use Rattle.slices.specs.Snapshots.{IsWeight}

-- which machines are kept apart: each member from each other one, those of a part from those of another part, or the members from all
-- other machines
pub data Separation : Type 0 where
  Each : List VmId → Separation
  Between : List (List VmId) → Separation
  FromOthers : List VmId → Separation

-- on which nodes a member may be: on those outside a set, on those of a set, or on its host if it runs at present
pub data Places : Type 0 where
  Outside : NodeSet → Places
  Within : NodeSet → Places
  OnHost : Places

-- the groups of nodes of which one is to have all members: each node by itself, or those that are listed
pub data Groups : Type 0 where
  AnyNode : Groups
  AnyOf : List NodeSet → Groups

-- machines are kept apart; members are on allowed places; one group has all members; `before` has ended where `after` has started; no two
-- members act; what machines hold on a set of nodes is at most an amount; as are the powered nodes of a set; or it is part of the
-- demand, of the capacity or of the legal choices, so that nothing is left to ask
pub data Form : Type 0 where
  Apart : Separation → Form
  Allowed : List VmId → Places → Form
  Together : List VmId → Groups → Form
  Ordered : VmId → VmId → Form
  InTurn : List VmId → Form
  Bounded : Weight → NodeSet → ℕ → Form
  Powered : NodeSet → ℕ → Form
  Settled : Form

-- the form of each kind
abbrev pub form_of : Constraint → Form
form_of (Spread vs b) = Apart (Each vs)
form_of (Split parts b) = Apart (Between parts)
form_of (Lonely vs b) = Apart (FromOthers vs)
form_of (Ban vs ns b) = Allowed vs (Outside ns)
form_of (Fence vs ns b) = Allowed vs (Within ns)
form_of (Root vs) = Allowed vs OnHost
form_of (Gather vs b) = Together vs AnyNode
form_of (Among vs groups b) = Together vs (AnyOf groups)
form_of (Precedence before after) = Ordered before after
form_of (Serialize vs) = InTurn vs
form_of (ResourceCapacity ns r amount b) = Bounded (Amount r) ns amount
form_of (RunningCapacity ns amount b) = Bounded Presence ns amount
form_of (MaxOnline ns amount b) = Powered ns amount
form_of (Preserve vs r amount) = Settled
form_of (Overbook ns r num den) = Settled
form_of (Online ns) = Settled
form_of (Offline ns) = Settled
form_of (Running vs) = Settled
form_of (Sleeping vs) = Settled
form_of (Ready vs) = Settled
form_of (Killed vs) = Settled

-- ---- what a form speaks of

-- the machines that are kept apart, all parts joined
abbrev pub separated : Separation → List VmId
separated (Each vs) = vs
separated (Between parts) = all_of parts
separated (FromOthers vs) = vs

-- the members of a form
abbrev pub members : Form → List VmId
members (Apart separation) = separated separation
members (Allowed vs places) = vs
members (Together vs groups) = vs
members (Ordered before after) = before ∷ after ∷ []
members (InTurn vs) = vs
members (Bounded weight ns amount) = []
members (Powered ns amount) = []
members Settled = []

-- there is a group
abbrev pub IsGroupsFit : Groups → Type 0
IsGroupsFit AnyNode = Unit {0}
IsGroupsFit (AnyOf groups) = nat_lt 0 (length groups) ≡ true

-- what a form names beside its members is there
abbrev pub IsFit : Instance → Form → Type 0
IsFit p (Apart separation) = Unit {0}
IsFit p (Allowed vs places) = Unit {0}
IsFit p (Together vs groups) = IsGroupsFit groups
IsFit p (Ordered before after) = Unit {0}
IsFit p (InTurn vs) = Unit {0}
IsFit p (Bounded weight ns amount) = IsWeight p weight
IsFit p (Powered ns amount) = Unit {0}
IsFit p Settled = Unit {0}

-- the members are listed and differ, and the rest is there
pub record IsSound (p : Instance) (f : Form) : Type 0 where
  pub listed : are_below (machine_count p) (members f) ≡ true
  pub differ : differ (members f) ≡ true
  pub fit : IsFit p f

-- the form of a constraint without a fault is sound
abbrev pub SoundForm : Type 0
SoundForm = (p : Instance) (c : Constraint) → is_rule (inventory_of p) c ≡ true → IsSound p (form_of c)

-- ---- forms as the program holds them, with lent lists

abbrev pub separation_seen : LentSeparation → Separation
separation_seen (LentEach vs) = Each vs.now
separation_seen (LentBetween parts) = Between parts.now
separation_seen (LentFromOthers vs) = FromOthers vs.now

abbrev pub places_seen : LentPlaces → Places
places_seen (LentOutside ns) = Outside ns.now
places_seen (LentWithin ns) = Within ns.now
places_seen LentOnHost = OnHost

abbrev pub groups_seen : LentGroups → Groups
groups_seen LentAnyNode = AnyNode
groups_seen (LentAnyOf groups) = AnyOf groups.now

abbrev pub form_seen : Lent → Form
form_seen (LentApart separation) = Apart (separation_seen separation)
form_seen (LentAllowed vs places) = Allowed vs.now (places_seen places)
form_seen (LentTogether vs groups) = Together vs.now (groups_seen groups)
form_seen (LentOrdered before after) = Ordered before after
form_seen (LentInTurn vs) = InTurn vs.now
form_seen (LentBounded weight ns amount) = Bounded weight ns.now amount
form_seen (LentPowered ns amount) = Powered ns.now amount
form_seen LentSettled = Settled
