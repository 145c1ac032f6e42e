-- Helping only: laws of what one choice gives over the starts at a place.
use Rattle.std.specs.Prelude.{◌≡◌, ℕ, ◌+◌, ◌≤◌, min, nat_le, if◌then◌else◌}
use Rattle.cluster.specs.declared.choices.Choice.{Choice}
use Rattle.cluster.specs.declared.choices.Choice.TheVariants.{Act}
use Rattle.cluster.specs.declared.choices.Place.{Place}
use Rattle.catalogue.specs.Instance.{Instance}
use Rattle.slices.specs.declared.stage.Progress.{Progress}
use Rattle.slices.specs.declared.slice.Weight.{Weight}
use Rattle.slices.specs.Actions.{action_duration}
use Rattle.slices.specs.Elements.{node, vm}
use Rattle.slices.specs.Plans.{Choices}
use Rattle.slices.specs.Snapshots.{Snapshot, action_at, held_at, powered_at, present_at, snapshot_at, usable_at}
use Rattle.slices.specs.Stages.{Nodes}

-- ---- by elements

-- what each element's choice gives at an instant, put together
abbrev pub snapshot_of : Instance → Choices → ℕ → Snapshot
snapshot_of p plan t = record {
  held = λ v w set. held_at p v w set t (plan (vm v));
  present = λ v set. present_at p v set t (plan (vm v));
  usable = λ n. usable_at p n t (plan (node n));
  powered = λ n. powered_at p n t (plan (node n));
  action = λ v far. action_at p v far t (plan (vm v));
}

-- the snapshot at an instant is what each element's choice gives
abbrev pub IsPointwise : Type 0
IsPointwise = (p : Instance) (plan : Choices) (t : ℕ) → snapshot_at p plan t ≡ snapshot_of p plan t

-- ---- the form

-- what is always held, what until an end, and what from a start on
pub record Steps : Type 0 where
  pub always : ℕ
  pub before : ℕ
  pub after : ℕ

-- how much that is at an instant, where the action lasts so long
abbrev pub step_value : Steps → ℕ → ℕ → ℕ → ℕ
step_value x duration t start =
    x.always + ((if nat_le (start + duration) t then 0 else x.before) + (if nat_le start t then x.after else 0))

-- what a machine holds over the starts at a place has that form
abbrev pub HeldInSteps : Type 0
HeldInSteps =
    (p : Instance) (v : ℕ) (w : Weight) (set : Nodes) (place : Place) →
    (x : Steps) × ((t s : ℕ) → held_at p v w set t (Act place s) ≡ step_value x (action_duration p (vm v) place) t s)

-- ---- least at an end

-- no start of a row gives less than both of its ends
abbrev pub IsLeastAtEnds : (Choice → ℕ) → Type 0
IsLeastAtEnds f = (place : Place) (lo s hi : ℕ) → lo ≤ s → s ≤ hi → min (f (Act place lo)) (f (Act place hi)) ≤ f (Act place s)

-- 1 for a choice under which the node is not usable
abbrev pub unusable_count : Instance → ℕ → ℕ → Choice → ℕ
unusable_count p n t c = if usable_at p n t c then 0 else 1

-- 1 for a choice under which the node is powered
abbrev pub powered_count : Instance → ℕ → ℕ → Choice → ℕ
powered_count p n t c = if powered_at p n t c then 1 else 0

-- 1 for a choice under which the machine's action is so far
abbrev pub action_count : Instance → ℕ → Progress → ℕ → Choice → ℕ
action_count p v far t c = if action_at p v far t c then 1 else 0

abbrev pub HeldAtEnds : Type 0
HeldAtEnds = (p : Instance) (v : ℕ) (w : Weight) (set : Nodes) (t : ℕ) → IsLeastAtEnds (held_at p v w set t)

abbrev pub UnusableAtEnds : Type 0
UnusableAtEnds = (p : Instance) (n t : ℕ) → IsLeastAtEnds (unusable_count p n t)

abbrev pub PoweredAtEnds : Type 0
PoweredAtEnds = (p : Instance) (n t : ℕ) → IsLeastAtEnds (powered_count p n t)

abbrev pub ActionAtEnds : Type 0
ActionAtEnds = (p : Instance) (v : ℕ) (far : Progress) (t : ℕ) → IsLeastAtEnds (action_count p v far t)
