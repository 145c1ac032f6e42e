-- Helping only: laws of what a machine holds, by the nodes of a set, and how much it is at most.
use Rattle.std.specs.Prelude.{◌≡◌, ℕ, ◌<◌, ◌≤◌, false, if◌then◌else◌, IsTrue}
use Rattle.base.specs.Sums.{sum_to}
use Rattle.cluster.specs.declared.choices.Choice.{Choice}
use Rattle.catalogue.specs.Instance.{Instance, IsInstance}
use Rattle.slices.specs.declared.slice.Weight.{Weight}
use Rattle.slices.specs.declared.slice.Weight.TheVariants.{Amount, Presence, Image}
use Rattle.slices.specs.Elements.{node_count}
use Rattle.slices.specs.Limits.{max_held}
use Rattle.slices.specs.Snapshots.{held_at, present_at}
use Rattle.slices.specs.Stages.{Nodes, one}

-- ---- by nodes

-- what is held on a set is the sum over its nodes
abbrev pub HeldByNode : Type 0
HeldByNode =
    (p : Instance) → IsInstance p → (v : ℕ) (w : Weight) (set : Nodes) (t : ℕ) (c : Choice) →
    held_at p v w set t c ≡ sum_to (node_count p) (λ n. if set n then held_at p v w (one n) t c else 0)

-- on more nodes there is no less
abbrev pub HeldOnMore : Type 0
HeldOnMore =
    (p : Instance) (v : ℕ) (w : Weight) (few many : Nodes) (t : ℕ) (c : Choice) → ((n : ℕ) → IsTrue (few n) → IsTrue (many n)) →
    held_at p v w few t c ≤ held_at p v w many t c

-- a machine that is present on a set is present on a node of it
abbrev pub PresentSomewhere : Type 0
PresentSomewhere =
    (p : Instance) → IsInstance p → (v : ℕ) (set : Nodes) (t : ℕ) (c : Choice) → IsTrue (present_at p v set t c) →
    (n : ℕ) × (n < node_count p) × IsTrue (set n) × IsTrue (present_at p v (one n) t c)

-- a machine that is present on a node is present on each set with the node
abbrev pub PresentOnSet : Type 0
PresentOnSet =
    (p : Instance) (v n : ℕ) (set : Nodes) (t : ℕ) (c : Choice) → IsTrue (set n) → IsTrue (present_at p v (one n) t c) →
    IsTrue (present_at p v set t c)

-- a machine that is not present uses nothing
abbrev pub AbsentUsesNothing : Type 0
AbsentUsesNothing =
    (p : Instance) → IsInstance p → (v : ℕ) (set : Nodes) (r t : ℕ) (c : Choice) → present_at p v set t c ≡ false →
    held_at p v (Amount r) set t c ≡ 0

-- ---- bounds

-- on two nodes at most, with at most the greatest amount on each, and one image
pub record IsSmall (p : Instance) (v : ℕ) (set : Nodes) (t : ℕ) (c : Choice) : Type 0 where
  pub amounts : (r : ℕ) → held_at p v (Amount r) set t c ≤ max_held
  pub presences : held_at p v Presence set t c ≤ 2
  pub images : held_at p v Image set t c ≤ 1

abbrev pub HeldIsSmall : Type 0
HeldIsSmall = (p : Instance) → IsInstance p → (v : ℕ) (set : Nodes) (t : ℕ) (c : Choice) → IsSmall p v set t c
