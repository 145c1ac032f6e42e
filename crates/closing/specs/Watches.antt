-- Watches: single things that can be broken in what is sure, each with what it looks at.
use Rattle.std.specs.Prelude.{◌≡◌, ℕ, ◌≤◌, Bool, false, List, [], ◌∷◌, IsTrue, if◌then◌else◌}
use Rattle.relax.specs.Prelude.{is_member, Nodes, Sets, Snapshot}
use Rattle.cluster.specs.declared.{choices.Choice.TheVariants.Idle, ids.Element.Element, ids.Element.TheVariants.Vm, ids.Element.TheVariants.Node as TheNode, ids.VmId.VmId}
use Rattle.slices.specs.declared.{slice.Weight.Weight, stage.Progress.Progress}

-- what is looked at of a snapshot: what machines hold on sets of nodes, where they are, which nodes are usable and powered, how far actions are
pub record Scope : Type 1 where
  pub held : ℕ → Weight → Nodes → Type 0
  pub present : ℕ → Nodes → Type 0
  pub usable : ℕ → Type 0
  pub powered : ℕ → Type 0
  pub action : ℕ → Progress → Type 0

-- one thing that can be broken in a snapshot, which is that of the last instant or of an earlier one
pub record Watch : Type 1 where
  pub scope : Scope
  pub broken : Snapshot → Bool → Type 0

-- as far as it is looked at, s has no more than big
pub record IsPartWithin (k : Scope) (s big : Snapshot) : Type 0 where
  pub held : (v : ℕ) (w : Weight) (set : Nodes) → k.held v w set → s.held v w set ≤ big.held v w set
  pub present : (v : ℕ) (set : Nodes) → k.present v set → IsTrue (s.present v set) → IsTrue (big.present v set)
  pub usable : (n : ℕ) → k.usable n → IsTrue (big.usable n) → IsTrue (s.usable n)
  pub powered : (n : ℕ) → k.powered n → IsTrue (s.powered n) → IsTrue (big.powered n)
  pub action : (v : ℕ) (far : Progress) → k.action v far → IsTrue (s.action v far) → IsTrue (big.action v far)

-- the watch looks at nothing past its scope, and what is broken in a part is broken in the whole
pub record IsLocal (w : Watch) : Type 0 where
  pub part : (s big : Snapshot) (last : Bool) → IsPartWithin w.scope s big → w.broken s last → w.broken big last

-- nothing of the element is looked at
pub record IsMachineUnseen (k : Scope) (v : ℕ) : Type 0 where
  pub held : (w : Weight) (set : Nodes) → ¬ k.held v w set
  pub present : (set : Nodes) → ¬ k.present v set
  pub action : (far : Progress) → ¬ k.action v far

pub record IsNodeUnseen (k : Scope) (n : ℕ) : Type 0 where
  pub usable : ¬ k.usable n
  pub powered : ¬ k.powered n

abbrev pub IsUnseen : Scope → Element → Type 0
IsUnseen k (Vm v) = IsMachineUnseen k v.0
IsUnseen k (TheNode n) = IsNodeUnseen k n.0

-- ---- some machines alone

-- whether an element is a machine of a list
abbrev pub is_among : List VmId → Element → Bool
is_among vs (Vm v) = is_member vs v.0
is_among vs (TheNode n) = false

-- nothing is looked at but of the machines of the list
pub record SeesOnly (vs : List VmId) (k : Scope) : Type 0 where
  pub unseen : (e : Element) → is_among vs e ≡ false → IsUnseen k e

-- these machines have their choices, and each other element can only stay
abbrev pub only_of : List VmId → Sets → Sets
only_of vs s e = if is_among vs e then s e else Idle ∷ []
