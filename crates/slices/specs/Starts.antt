-- Helping only: laws of starts: between starts there is only less, so what was kept stays kept.
use Rattle.std.specs.Prelude.{◌≡◌, ◌⊎◌, ℕ, ◌<◌, ◌≤◌, Bool, true, false, ◌==◌, Option, Some, None, IsTrue}
use Rattle.std.specs.Option.{ForSome}
use Rattle.catalogue.specs.Prelude.{all_of, has_node, Instance, is_member, IsElement}
use Rattle.cluster.specs.declared.choices.Choice.{Choice}
use Rattle.cluster.specs.declared.choices.Choice.TheVariants.{Idle, Act}
use Rattle.cluster.specs.declared.ids.Element.{Element}
use Rattle.cluster.specs.declared.ids.Element.TheVariants.{Vm, Node as TheNode}
use Rattle.catalogue.specs.declared.constraint.Constraint.{Constraint}
use Rattle.slices.specs.declared.rule.Rule.{Rule}
use Rattle.slices.specs.declared.stage.Progress.{Progress}
use Rattle.slices.specs.declared.slice.Weight.{Weight}
use Rattle.slices.specs.Forms.{Form, Apart, Allowed, Together, Ordered, InTurn, Bounded, Powered, Settled, Separation, Each, Between, FromOthers, form_of}
use Rattle.slices.specs.Holds.{Holds}
use Rattle.slices.specs.Plans.{Choices, IsPlanOf, PlanChoices, choices_of}
use Rattle.slices.specs.Rules.{Keeps}
use Rattle.slices.specs.Snapshots.{action_at, held_at, powered_at, snapshot_at, usable_at}
use Rattle.slices.specs.Stages.{Nodes}

-- the start of a choice's action
abbrev pub start_of : Choice → Option ℕ
start_of Idle = None
start_of (Act place start) = Some start

-- the choice has no start after u up to t
abbrev pub IsQuiet : Choice → ℕ → ℕ → Type 0
IsQuiet c u t = ForSome (start_of c) (λ s. (s ≤ u) ⊎ (t < s))

-- ---- one choice

-- a choice without a start after u up to t holds no more at t than at u
abbrev pub HeldQuiet : Type 0
HeldQuiet =
    (p : Instance) (v : ℕ) (w : Weight) (set : Nodes) (u t : ℕ) (c : Choice) → u ≤ t → IsQuiet c u t →
    held_at p v w set t c ≤ held_at p v w set u c

-- its node stays usable
abbrev pub UsableQuiet : Type 0
UsableQuiet =
    (p : Instance) (n u t : ℕ) (c : Choice) → u ≤ t → IsQuiet c u t → IsTrue (usable_at p n u c) → IsTrue (usable_at p n t c)

-- and is powered only if it was
abbrev pub PoweredQuiet : Type 0
PoweredQuiet =
    (p : Instance) (n u t : ℕ) (c : Choice) → u ≤ t → IsQuiet c u t → IsTrue (powered_at p n t c) → IsTrue (powered_at p n u c)

-- its action is so far only if it was
abbrev pub ActionQuiet : Type 0
ActionQuiet =
    (p : Instance) (v : ℕ) (far : Progress) (u t : ℕ) (c : Choice) → u ≤ t → IsQuiet c u t → IsTrue (action_at p v far t c) →
    IsTrue (action_at p v far u c)

-- ---- all choices

-- whether a start of a machine can break what keeps machines apart: one of those, or any machine where others are kept off
abbrev pub separation_matters : Separation → ℕ → Bool
separation_matters (Each vs) v = is_member vs v
separation_matters (Between parts) v = is_member (all_of parts) v
separation_matters (FromOthers vs) v = true

-- whether a start of a machine can break a form: one of a member, of any machine where it holds an amount, of the machine that acts after
abbrev pub machine_matters : Form → ℕ → Bool
machine_matters (Apart separation) v = separation_matters separation v
machine_matters (Allowed vs places) v = is_member vs v
machine_matters (Together vs groups) v = is_member vs v
machine_matters (Ordered before after) v = v == after.0
machine_matters (InTurn vs) v = is_member vs v
machine_matters (Bounded weight ns amount) v = true
machine_matters (Powered ns amount) v = false
machine_matters Settled v = false

-- whether a start of a node can: one of the nodes that are to be powered at most
abbrev pub node_matters : Form → ℕ → Bool
node_matters (Apart separation) n = false
node_matters (Allowed vs places) n = false
node_matters (Together vs groups) n = false
node_matters (Ordered before after) n = false
node_matters (InTurn vs) n = false
node_matters (Bounded weight ns amount) n = false
node_matters (Powered ns amount) n = has_node ns n
node_matters Settled n = false

-- whether a start of the element can break a form, and a constraint of that form
abbrev pub form_matters : Form → Element → Bool
form_matters f (Vm v) = machine_matters f v.0
form_matters f (TheNode n) = node_matters f n.0

abbrev pub matters : Constraint → Element → Bool
matters c = form_matters (form_of c)

-- a constraint that holds goes on to hold until an element starts that matters to it
abbrev pub MattersQuiet : Type 0
MattersQuiet =
    (p : Instance) (plan : PlanChoices) → IsPlanOf p plan → (u t : ℕ) (c : Constraint) → u ≤ t →
    ((e : Element) → IsElement p e → IsTrue (matters c e) → IsQuiet (choices_of plan e) u t) →
    Holds p (snapshot_at p (choices_of plan) u) c → Holds p (snapshot_at p (choices_of plan) t) c

-- a rule that is kept goes on to be kept until an element starts
abbrev pub KeepsQuiet : Type 0
KeepsQuiet =
    (p : Instance) (plan : PlanChoices) → IsPlanOf p plan → (u t : ℕ) → u ≤ t →
    ((e : Element) → IsElement p e → IsQuiet (choices_of plan e) u t) → (last : Bool) (r : Rule) →
    Keeps p (snapshot_at p (choices_of plan) u) last r → Keeps p (snapshot_at p (choices_of plan) t) last r

-- ---- the last start

-- the last start up to t of some elements, or 0
pub record LastStart (p : Instance) (plan : Choices) (some : Element → Bool) (t : ℕ) : Type 0 where
  pub at : ℕ
  pub early : at ≤ t
  pub is_start : (at ≡ 0) ⊎ ((e : Element) × IsElement p e × IsTrue (some e) × (start_of (plan e) ≡ Some at))
  pub quiet : (e : Element) → IsElement p e → IsTrue (some e) → IsQuiet (plan e) at t

abbrev pub HasLastStart : Type 0
HasLastStart = (p : Instance) (plan : Choices) (some : Element → Bool) (t : ℕ) → LastStart p plan some t
