-- Helping only: where a machine may surely be up to the horizon, and who keeps off.
use Rattle.std.specs.Prelude.{◌≡◌, ◌≢◌, ◌⊎◌, ℕ, ◌<◌, ◌≤◌, Bool, false, List, [], max, Option, Some, None, if◌then◌else◌, IsTrue}
use Rattle.rule_constraint.specs.Prelude.{Arrival, Instance, IsEnd, machine_count, one, present_at, Separates, Separation, Sets, Standing, sure, vm}
use Rattle.cluster.specs.declared.choices.Choice.{Choice}
use Rattle.cluster.specs.declared.choices.Place.{Place}
use Rattle.cluster.specs.declared.choices.Place.TheVariants.{Nowhere, At}
use Rattle.rule_pair.specs.declared.longest.Longest.{Longest}
use Rattle.rule_pair.specs.declared.posts.Post.{Post}
use Rattle.rule_pair.specs.declared.posts.Posts.{Posts}
use Rattle.rule_pair.specs.declared.clear.Seen.{Seen}
use Rattle.rule_pair.specs.declared.clear.Seen.TheVariants.{Clear, Doubtful, Unknown}
use Rattle.rule_pair.specs.Longest.{told_until}

-- the post, if there is one, is the node, and lasts until the instant
abbrev pub IsAt : Option Post → ℕ → ℕ → Type 0
IsAt None n t = ⊥
IsAt (Some a) n t = (a.node.0 ≡ n) × (t ≤ a.last)

-- from an instant up to the horizon a machine that has a choice surely is nowhere but at its posts
pub record HasPosts (p : Instance) (s : Sets) (from v : ℕ) (x : Posts) : Type 0 where
  pub each : s (vm v) ≢ [] → (n t : ℕ) → from ≤ t → t ≤ p.horizon → IsTrue ((sure p s t).present v (one n)) → IsAt x.host n t ⊎ IsAt x.come n t

-- the part of a machine: that of a number, or where each is to be alone its own
abbrev pub part_of : Option ℕ → ℕ → ℕ
part_of None v = v
part_of (Some i) v = i

-- wherever machine v of a part surely is from an instant up to the horizon, if it has a choice, machines of other parts are told so
pub record IsTold (p : Instance) (s : Sets) (xs : List Longest) (from part v : ℕ) : Type 0 where
  pub each : s (vm v) ≢ [] → (q n t : ℕ) → q ≢ part → from ≤ t → t ≤ p.horizon → IsTrue ((sure p s t).present v (one n)) → t < told_until xs q n

-- an action there starts after all stays of machines of other parts that last past an instant
abbrev pub IsLate : List Longest → ℕ → ℕ → Place → ℕ → Type 0
IsLate xs part from Nowhere start = Unit {0}
IsLate xs part from (At n) start = told_until xs part n.0 ≤ max start from

-- all choices that have these numbers go to one node, at which the stays of other parts end by an instant
pub record ComesLate (xs : List Longest) (part from : ℕ) (k : Standing) : Type 0 where
  pub arrival : Arrival
  pub come : k.come ≡ Some arrival
  pub ended : told_until xs part arrival.node.0 ≤ from

-- from an instant on, machine w of a part has a choice, and is under no end of its choices at a node where a stay of another part is told
pub record KeepsOff (p : Instance) (s : Sets) (xs : List Longest) (part from w : ℕ) : Type 0 where
  pub some : s (vm w) ≢ []
  pub off : (n t : ℕ) (c : Choice) → from ≤ t → t ≤ p.horizon → t < told_until xs part n → IsEnd (s (vm w)) c → present_at p w (one n) t c ≡ false

-- from an instant on, machine w has a choice, and is under no end of its choices where v surely is
pub record KeepsClear (p : Instance) (s : Sets) (from v w : ℕ) : Type 0 where
  pub some : s (vm w) ≢ []
  pub off : (n t : ℕ) (c : Choice) → from ≤ t → t ≤ p.horizon → IsTrue ((sure p s t).present v (one n)) → IsEnd (s (vm w)) c → present_at p w (one n) t c ≡ false

-- and so are two machines of the instance of each other that are kept apart
pub record AreClear (p : Instance) (s : Sets) (from : ℕ) (separation : Separation) : Type 0 where
  pub one_way : (v w : ℕ) → v < machine_count p → w < machine_count p → Separates separation v w → v ≢ w → KeepsClear p s from v w
  pub other_way : (v w : ℕ) → v < machine_count p → w < machine_count p → Separates separation v w → v ≢ w → KeepsClear p s from w v

-- machines that pass a test are one part, and all others one
abbrev pub class_of : (ℕ → Bool) → ℕ → ℕ
class_of test v = if test v then 1 else 0

-- what is so where it was seen that machines keep apart
abbrev pub OnClear : Seen → Type 0 → Type 0
OnClear Clear P = P
OnClear (Doubtful d) P = Unit {0}
OnClear Unknown P = Unit {0}
