-- Helping only: what may be taken away from a snapshot so that a constraint still holds.
use Rattle.std.specs.Prelude.{ℕ, ◌<◌, ◌≤◌, List, IsTrue}
use Rattle.catalogue.specs.Prelude.{has_node, Instance}
use Rattle.cluster.specs.declared.ids.VmId.{VmId}
use Rattle.catalogue.specs.declared.constraint.Constraint.{Constraint}
use Rattle.slices.specs.declared.stage.Progress.{Progress}
use Rattle.slices.specs.declared.stage.Progress.TheVariants.{Started, Unended, Acting}
use Rattle.slices.specs.declared.slice.Weight.{Weight}
use Rattle.slices.specs.Elements.{machine_count, node_count}
use Rattle.slices.specs.Forms.{Form, Apart, Allowed, Together, Ordered, InTurn, Bounded, Powered, Settled, Separation, Each, Between, FromOthers, form_of}
use Rattle.slices.specs.Holds.{Holds, IsInPart, IsMember}
use Rattle.slices.specs.Snapshots.{Snapshot}
use Rattle.slices.specs.Stages.{Nodes}

-- the machine is present nowhere where it is not in the big snapshot
abbrev pub IsLessPresent : Snapshot → Snapshot → ℕ → Type 0
IsLessPresent s big v = (set : Nodes) → IsTrue (s.present v set) → IsTrue (big.present v set)

-- the members are
abbrev pub AreLessPresent : Instance → List VmId → Snapshot → Snapshot → Type 0
AreLessPresent p vs s big = (v : ℕ) → v < machine_count p → IsMember vs v → IsLessPresent s big v

-- the machine holds no more on any set of nodes than in the big snapshot
abbrev pub HoldsLess : Snapshot → Snapshot → Weight → ℕ → Type 0
HoldsLess s big w v = (set : Nodes) → s.held v w set ≤ big.held v w set

-- the machine's action is so far only if it is in the big snapshot
abbrev pub IsLessFar : Snapshot → Snapshot → Progress → ℕ → Type 0
IsLessFar s big far v = IsTrue (s.action v far) → IsTrue (big.action v far)

-- of what a form speaks of, there is no more than in the big snapshot: fewer presences of its members (of all machines, where members are
-- kept apart from all others), fewer started, unended and acting ones, smaller amounts, fewer powered nodes
abbrev pub IsLessSeparated : Instance → Separation → Snapshot → Snapshot → Type 0
IsLessSeparated p (Each vs) s big = AreLessPresent p vs s big
IsLessSeparated p (Between parts) s big = (i v : ℕ) → v < machine_count p → IsInPart parts i v → IsLessPresent s big v
IsLessSeparated p (FromOthers vs) s big = (v : ℕ) → v < machine_count p → IsLessPresent s big v

abbrev pub IsLessForForm : Instance → Form → Snapshot → Snapshot → Type 0
IsLessForForm p (Apart separation) s big = IsLessSeparated p separation s big
IsLessForForm p (Allowed vs places) s big = AreLessPresent p vs s big
IsLessForForm p (Together vs groups) s big = AreLessPresent p vs s big
IsLessForForm p (Ordered before after) s big = IsLessFar s big Started after.0 × IsLessFar s big Unended before.0
IsLessForForm p (InTurn vs) s big = (v : ℕ) → v < machine_count p → IsMember vs v → IsLessFar s big Acting v
IsLessForForm p (Bounded weight ns amount) s big = (v : ℕ) → v < machine_count p → HoldsLess s big weight v
IsLessForForm p (Powered ns amount) s big =
    (n : ℕ) → n < node_count p → IsTrue (has_node ns n) → IsTrue (s.powered n) → IsTrue (big.powered n)
IsLessForForm p Settled s big = Unit {0}

-- of what a constraint speaks of
abbrev pub IsLessFor : Instance → Constraint → Snapshot → Snapshot → Type 0
IsLessFor p c = IsLessForForm p (form_of c)

-- a constraint that holds of a snapshot holds of each one with less of what it speaks of
abbrev pub LessHolds : Type 0
LessHolds = (p : Instance) (s big : Snapshot) (c : Constraint) → IsLessFor p c s big → Holds p big c → Holds p s c
