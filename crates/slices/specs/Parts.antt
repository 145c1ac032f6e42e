-- Helping only: laws of valid plans and their executions: a part of a snapshot keeps what the snapshot keeps.
use Rattle.std.specs.Prelude.{◌≡◌, ℕ, ◌≤◌, Bool, true, false, IsSome, IsTrue}
use Rattle.cluster.specs.declared.ids.Element.{Element}
use Rattle.catalogue.specs.Instance.{Instance, IsElement}
use Rattle.slices.specs.declared.rule.Broken.{Broken}
use Rattle.slices.specs.declared.rule.Rule.{Rule}
use Rattle.slices.specs.declared.stage.Progress.{Progress}
use Rattle.slices.specs.declared.stage.Stage.{Stage}
use Rattle.slices.specs.declared.slice.Weight.{Weight}
use Rattle.slices.specs.Plans.{Choices, PlanChoices, IsPlanOf, choices_of}
use Rattle.slices.specs.Rules.{InRange, IsFirstBroken, IsValid, Keeps}
use Rattle.slices.specs.Snapshots.{Snapshot, snapshot, snapshot_at, stages_at}
use Rattle.slices.specs.Stages.{Nodes}
use Rattle.slices.specs.Starts.{start_of}

-- ---- parts

-- s has no more amounts, presences, images, powered nodes and started, unended and acting machines than big, and no fewer usable nodes
pub record IsPartOf (s big : Snapshot) : Type 0 where
  pub held : (v : ℕ) (w : Weight) (set : Nodes) → s.held v w set ≤ big.held v w set
  pub present : (v : ℕ) (set : Nodes) → IsTrue (s.present v set) → IsTrue (big.present v set)
  pub usable : (n : ℕ) → IsTrue (big.usable n) → IsTrue (s.usable n)
  pub powered : (n : ℕ) → IsTrue (s.powered n) → IsTrue (big.powered n)
  pub action : (v : ℕ) (far : Progress) → IsTrue (s.action v far) → IsTrue (big.action v far)

-- what has started at the first stages has at the second, and what has ended at the second has at the first
pub record IsStagePart (s big : Element → Stage) : Type 0 where
  pub started : (e : Element) → IsTrue (s e).started → IsTrue (big e).started
  pub ended : (e : Element) → IsTrue (big e).ended → IsTrue (s e).ended

-- a part keeps each rule that was kept
abbrev pub PartsKeep : Type 0
PartsKeep =
    (p : Instance) (s big : Snapshot) → IsPartOf s big → (last : Bool) (r : Rule) → Keeps p big last r → Keeps p s last r

-- where less has started and more has ended, there is only less
abbrev pub StagePartsArePart : Type 0
StagePartsArePart =
    (p : Instance) (plan : Choices) (s big : Element → Stage) → IsStagePart s big →
    IsPartOf (snapshot p plan s) (snapshot p plan big)

-- ---- executions

-- a valid plan's rules are kept at any moment at which all that has started is due by t, and all that is over by t has ended
abbrev pub ExecutionKeeps : Type 0
ExecutionKeeps =
    (p : Instance) (plan : Choices) → IsValid p plan → (t : ℕ) → t ≤ p.horizon → (now : Element → Stage) →
    IsStagePart now (stages_at p plan t) → (r : Rule) → InRange p r → Keeps p (snapshot p plan now) false r

-- all actions of a plan have started and ended
abbrev pub AreOver : Instance → Choices → (Element → Stage) → Type 0
AreOver p plan stages =
    (e : Element) → IsElement p e → IsSome (start_of (plan e)) → stages e ≡ record { started = true; ended = true }

-- where they have, all is where the plan has it at the horizon
abbrev pub OverAsPlanned : Type 0
OverAsPlanned =
    (p : Instance) → (plan : PlanChoices) → IsPlanOf p plan → (stages : Element → Stage) → AreOver p (choices_of plan) stages →
    snapshot p (choices_of plan) stages ≡ snapshot_at p (choices_of plan) p.horizon

-- ---- one first broken rule

-- at most one value is the first broken one
abbrev pub FirstIsOne : Type 0
FirstIsOne = (p : Instance) (plan : Choices) (a b : Broken) → IsFirstBroken p plan a → IsFirstBroken p plan b → a ≡ b
