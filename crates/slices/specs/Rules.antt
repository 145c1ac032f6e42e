-- Valid plans, and the first broken rule.
use Rattle.std.specs.Prelude.{◌≡◌, ◌⊎◌, ℕ, ◌<◌, ◌≤◌, Bool, ◌||◌, ◌==◌, length, slice_get, IsTrue}
use Rattle.std.specs.Option.{ForSome}
use Rattle.catalogue.specs.Prelude.{capacity_of, continuous_at, Instance}
use Rattle.slices.specs.declared.rule.Broken.{Broken}
use Rattle.slices.specs.declared.rule.Rule.{Rule}
use Rattle.slices.specs.declared.rule.Rule.TheVariants.{Load, Usable, Constraint as OfConstraint}
use Rattle.slices.specs.Elements.{machine_count, node_count}
use Rattle.slices.specs.Plans.{Choices}
use Rattle.slices.specs.Stages.{one}
use Rattle.slices.specs.Snapshots.{Snapshot, snapshot_at, load, stands_on}
use Rattle.slices.specs.Holds.{Holds}

-- whether a constraint applies at the last instant, or at an earlier one
abbrev pub applies : Instance → Bool → ℕ → Bool
applies p last c = continuous_at (slice_get p.constraints c) || last

-- the rule speaks of what the instance has
abbrev pub InRange : Instance → Rule → Type 0
InRange p (Load n r) = (n.0 < node_count p) × (r < length p.resources)
InRange p (Usable v n) = (v.0 < machine_count p) × (n.0 < node_count p)
InRange p (OfConstraint c) = c < length p.constraints

-- the rule is kept by what is where, at the last instant or at an earlier one
abbrev pub Keeps : Instance → Snapshot → Bool → Rule → Type 0
Keeps p s last (Load n r) = load p s r (one n.0) ≤ capacity_of p n.0 r
Keeps p s last (Usable v n) = IsTrue (stands_on s v.0 n.0) → IsTrue (s.usable n.0)
Keeps p s last (OfConstraint c) = IsTrue (applies p last c) → ForSome (slice_get p.constraints c) (Holds p s)

abbrev pub KeepsAt : Instance → Choices → ℕ → Rule → Type 0
KeepsAt p plan t r = Keeps p (snapshot_at p plan t) (t == p.horizon) r

abbrev pub KeepsAllAt : Instance → Choices → ℕ → Type 0
KeepsAllAt p plan t = (r : Rule) → InRange p r → KeepsAt p plan t r

-- at every instant from 0 to the horizon every rule is kept
unfoldable pub IsValid : Instance → Choices → Type 0
IsValid p plan = (t : ℕ) → t ≤ p.horizon → KeepsAllAt p plan t

-- ---- the first broken rule

-- loads by node and resource, then usable nodes by machine and node, then constraints by number
abbrev pub Precedes : Rule → Rule → Type 0
Precedes (Load a r) (Load b q) = (a.0 < b.0) ⊎ ((a.0 ≡ b.0) × (r < q))
Precedes (Load a r) (Usable w m) = Unit {0}
Precedes (Load a r) (OfConstraint c) = Unit {0}
Precedes (Usable v n) (Load b q) = ⊥
Precedes (Usable v n) (Usable w m) = (v.0 < w.0) ⊎ ((v.0 ≡ w.0) × (n.0 < m.0))
Precedes (Usable v n) (OfConstraint c) = Unit {0}
Precedes (OfConstraint c) (Load b q) = ⊥
Precedes (OfConstraint c) (Usable w m) = ⊥
Precedes (OfConstraint c) (OfConstraint d) = c < d

-- the first rule that is broken at an instant
pub record IsFirstRule (p : Instance) (plan : Choices) (t : ℕ) (rule : Rule) : Type 0 where
  pub in_range : InRange p rule
  pub broken : ¬ KeepsAt p plan t rule
  pub first : (r : Rule) → InRange p r → Precedes r rule → KeepsAt p plan t r

-- the least instant at which a rule is broken, and the first one there
pub record IsFirstBroken (p : Instance) (plan : Choices) (b : Broken) : Type 0 where
  pub in_time : b.at ≤ p.horizon
  pub rule : IsFirstRule p plan b.at b.rule
  pub earlier : (t : ℕ) → t < b.at → KeepsAllAt p plan t
