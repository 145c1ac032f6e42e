-- Labels of machines, noted on the nodes on which they are present.
use Rattle.std.specs.Prelude.{◌≡◌, ◌⊎◌, ◌≢◌, ℕ, ◌<◌, Bool, false, ◌||◌, ◌&&◌, nat_lt, List, [], Option, Some, None, slice_index_or, IsTrue}
use Rattle.slices.specs.Prelude.{is_in, is_member, max_nodes, one, Snapshot}
use Rattle.cluster.specs.declared.ids.VmId.{VmId}
use Rattle.slices.specs.declared.holding.Holding.{Holding}

-- which labels machines have, one or several each
abbrev pub Labels : Type 0
Labels = ℕ → ℕ → Bool

-- the label that is noted on a node
abbrev pub label_on : List (Option ℕ) → ℕ → Option ℕ
label_on table n = slice_index_or table n None

-- whether what is held is a presence on the node
abbrev pub is_on : Holding → ℕ → Bool
is_on h n = is_in (one n) h.source || is_in (one n) h.target

-- a label is noted on each node where something is held, unless another one is noted on one of them
pub record IsClaim (h : Holding) (label : ℕ) (old new : List (Option ℕ)) (ok : Bool) : Type 0 where
  pub others : IsTrue ok → (n : ℕ) → is_on h n ≡ false → label_on new n ≡ label_on old n
  pub taken : IsTrue ok → (n : ℕ) → IsTrue (is_on h n) → label_on new n ≡ Some label
  pub free : IsTrue ok → (n : ℕ) → IsTrue (is_on h n) → (label_on old n ≡ None) ⊎ (label_on old n ≡ Some label)
  pub refused : ok ≡ false → (n : ℕ) × (l : ℕ) × (n < max_nodes) × IsTrue (is_on h n) × (label_on old n ≡ Some l) × (l ≢ label)

-- the table has the label of each labelled machine on all nodes where that is present, and no label else
pub record AreNoted (s : Snapshot) (labels : Labels) (table : List (Option ℕ)) : Type 0 where
  pub noted : (v l n : ℕ) → IsTrue (labels v l) → IsTrue (s.present v (one n)) → label_on table n ≡ Some l
  pub known : (n l : ℕ) → label_on table n ≡ Some l → (v : ℕ) × IsTrue (labels v l) × IsTrue (s.present v (one n))

-- each member of the first i parts has the number of its part
abbrev pub split_labels : List (List VmId) → ℕ → Labels
split_labels parts i v l = nat_lt l i && is_member (slice_index_or parts l []) v
