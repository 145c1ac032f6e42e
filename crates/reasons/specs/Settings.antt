-- Helping only: what changes in what is sure where one element has another set of choices, or is set to one choice.
use Rattle.std.specs.Prelude.{◌≡◌, ◌≢◌, ℕ, ◌+◌, ◌<◌, List, [], if◌then◌else◌}
use Rattle.std.specs.List.{Contains}
use Rattle.slices.specs.Prelude.{action_at, capacity_of, held_at, Instance, IsPartOf, machine_count, node, node_count, Nodes, powered_at, powered_nodes, present_at, room, Snapshot, total, usable_at, vm}
use Rattle.cluster.specs.declared.choices.Choice.{Choice}
use Rattle.cluster.specs.declared.ids.Element.{Element}
use Rattle.slices.specs.declared.slice.Weight.{Weight}
use Rattle.slices.specs.declared.stage.Progress.{Progress}
use Rattle.domains.specs.Sets.{Sets, setting}
use Rattle.reasons.specs.Closed.{IsEnd}
use Rattle.reasons.specs.Sure.{sure}

-- ---- element by element

-- two snapshots have the same of a machine, and of a node
pub record IsSameMachine (a b : Snapshot) (v : ℕ) : Type 0 where
  pub held : (w : Weight) (set : Nodes) → a.held v w set ≡ b.held v w set
  pub present : (set : Nodes) → a.present v set ≡ b.present v set
  pub action : (far : Progress) → a.action v far ≡ b.action v far

pub record IsSameNode (a b : Snapshot) (n : ℕ) : Type 0 where
  pub usable : a.usable n ≡ b.usable n
  pub powered : a.powered n ≡ b.powered n

-- a snapshot has of a machine what it has under a choice at an instant; and of a node
pub record IsMachineUnder (p : Instance) (a : Snapshot) (v t : ℕ) (c : Choice) : Type 0 where
  pub held : (w : Weight) (set : Nodes) → a.held v w set ≡ held_at p v w set t c
  pub present : (set : Nodes) → a.present v set ≡ present_at p v set t c
  pub action : (far : Progress) → a.action v far ≡ action_at p v far t c

pub record IsNodeUnder (p : Instance) (a : Snapshot) (n t : ℕ) (c : Choice) : Type 0 where
  pub usable : a.usable n ≡ usable_at p n t c
  pub powered : a.powered n ≡ powered_at p n t c

-- the element that is set has what it has under its choice, and all others have what they had
pub record IsSet (p : Instance) (s : Sets) (x : Element) (c : Choice) (t : ℕ) : Type 0 where
  pub set_machine : (v : ℕ) → x ≡ vm v → IsMachineUnder p (sure p (setting x c s) t) v t c
  pub set_node : (n : ℕ) → x ≡ node n → IsNodeUnder p (sure p (setting x c s) t) n t c
  pub other_machines : (v : ℕ) → vm v ≢ x → IsSameMachine (sure p (setting x c s) t) (sure p s t) v
  pub other_nodes : (n : ℕ) → node n ≢ x → IsSameNode (sure p (setting x c s) t) (sure p s t) n

abbrev pub SettingSets : Type 0
SettingSets = (p : Instance) (s : Sets) (x : Element) (c : Choice) (t : ℕ) → IsSet p s x c t

-- with an element set to one of its choices, no less is sure
abbrev pub SettingGrows : Type 0
SettingGrows = (p : Instance) (s : Sets) (x : Element) (c : Choice) (t : ℕ) → Contains (s x) c → IsPartOf (sure p s t) (sure p (setting x c s) t)

-- and an element with a choice has an end, to which it can be set
abbrev pub SomeEnd : Type 0
SomeEnd = (cs : List Choice) → cs ≢ [] → (c : Choice) × IsEnd cs c

-- an end is a choice
abbrev pub EndIsChoice : Type 0
EndIsChoice = (cs : List Choice) (c : Choice) → IsEnd cs c → Contains cs c

-- ---- sums, where sets differ at one element: its part changes, and nothing else

-- sets that are the same but at one element
abbrev pub AgreeBut : Element → Sets → Sets → Type 0
AgreeBut x s old = (e : Element) → e ≢ x → s e ≡ old e

-- sets that are the same at an element have the same of it
pub record AreSameAt (p : Instance) (s old : Sets) (t : ℕ) : Type 0 where
  pub of_machine : (v : ℕ) → s (vm v) ≡ old (vm v) → IsSameMachine (sure p s t) (sure p old t) v
  pub of_node : (n : ℕ) → s (node n) ≡ old (node n) → IsSameNode (sure p s t) (sure p old t) n

abbrev pub SameSets : Type 0
SameSets = (p : Instance) (s old : Sets) (t : ℕ) → AreSameAt p s old t

-- another set of a machine changes what all hold by its own
pub record IsMachineChange (p : Instance) (s old : Sets) (v t : ℕ) : Type 0 where
  pub of_total : (w : Weight) (set : Nodes) →
      total p (sure p s t) w set + (sure p old t).held v w set ≡ total p (sure p old t) w set + (sure p s t).held v w set
  pub of_room : (r : ℕ) (set : Nodes) → room p (sure p s t) r set ≡ room p (sure p old t) r set
  pub of_powered : (set : Nodes) → powered_nodes p (sure p s t) set ≡ powered_nodes p (sure p old t) set

abbrev pub MachineChange : Type 0
MachineChange = (p : Instance) (s old : Sets) (v t : ℕ) → v < machine_count p → AgreeBut (vm v) s old → IsMachineChange p s old v t

-- what a node of a set adds to the room, and to the powered nodes
abbrev pub room_at : Instance → Snapshot → ℕ → Nodes → ℕ → ℕ
room_at p s r set n = if set n then (if s.usable n then capacity_of p n r else 0) else 0

abbrev pub powered_in : Snapshot → Nodes → ℕ → ℕ
powered_in s set n = if set n then (if s.powered n then 1 else 0) else 0

-- another set of a node changes room and powered nodes by its own
pub record IsNodeChange (p : Instance) (s old : Sets) (n t : ℕ) : Type 0 where
  pub of_total : (w : Weight) (set : Nodes) → total p (sure p s t) w set ≡ total p (sure p old t) w set
  pub of_room : (r : ℕ) (set : Nodes) →
      room p (sure p s t) r set + room_at p (sure p old t) r set n ≡ room p (sure p old t) r set + room_at p (sure p s t) r set n
  pub of_powered : (set : Nodes) →
      powered_nodes p (sure p s t) set + powered_in (sure p old t) set n ≡ powered_nodes p (sure p old t) set + powered_in (sure p s t) set n

abbrev pub NodeChange : Type 0
NodeChange = (p : Instance) (s old : Sets) (n t : ℕ) → n < node_count p → AgreeBut (node n) s old → IsNodeChange p s old n t

-- ---- sums, where an element is set: a choice takes the place of the least

abbrev pub SettingTotal : Type 0
SettingTotal =
    (p : Instance) (s : Sets) (v : ℕ) (c : Choice) (t : ℕ) (w : Weight) (set : Nodes) → v < machine_count p →
    total p (sure p (setting (vm v) c s) t) w set + (sure p s t).held v w set ≡ total p (sure p s t) w set + held_at p v w set t c

abbrev pub SettingRoom : Type 0
SettingRoom =
    (p : Instance) (s : Sets) (n : ℕ) (c : Choice) (t r : ℕ) (set : Nodes) → n < node_count p →
    room p (sure p (setting (node n) c s) t) r set + room_at p (sure p s t) r set n ≡
    room p (sure p s t) r set + (if set n then (if usable_at p n t c then capacity_of p n r else 0) else 0)

abbrev pub SettingPowered : Type 0
SettingPowered =
    (p : Instance) (s : Sets) (n : ℕ) (c : Choice) (t : ℕ) (set : Nodes) → n < node_count p →
    powered_nodes p (sure p (setting (node n) c s) t) set + powered_in (sure p s t) set n ≡
    powered_nodes p (sure p s t) set + (if set n then (if powered_at p n t c then 1 else 0) else 0)

-- sets of which one is set are the same but there
abbrev pub SettingAgrees : Type 0
SettingAgrees = (s : Sets) (x : Element) (c : Choice) → AgreeBut x (setting x c s) s
