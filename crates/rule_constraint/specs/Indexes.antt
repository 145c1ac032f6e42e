-- Which constraints look at each machine and at each node.
use Rattle.std.specs.Prelude.{◌≡◌, ◌⊎◌, ℕ, ◌<◌, false, List, [], length, slice_index_or}
use Rattle.std.specs.List.{Contains}
use Rattle.rule_constraint.specs.Words.{constraint_watch, Instance, IsElement, IsUnseen, Levels, machine_count, node_count, scope_of, Element, Vm, TheNode, Constraint}

-- of each machine and each node a list of numbers of constraints, and one list for all machines
pub record Lists : Type 0 where
  pub machines : List (List ℕ)
  pub nodes : List (List ℕ)
  pub everywhere : List ℕ

-- the constraint is in a list of the element
abbrev pub IsListed : Lists → Element → ℕ → Type 0
IsListed l (Vm v) c = Contains (slice_index_or l.machines v.0 []) c ⊎ Contains l.everywhere c
IsListed l (TheNode n) c = Contains (slice_index_or l.nodes n.0 []) c

-- there is a list for each element; a constraint of the first ones that is in no list of an element does not look at it, and
-- no other constraint is in a list
pub record IsIndexOf (p : Instance) (count : ℕ) (l : Lists) : Type 0 where
  pub machines : length l.machines ≡ machine_count p
  pub nodes : length l.nodes ≡ node_count p
  pub unseen : (e : Element) (c : ℕ) → IsElement p e → c < count → ¬ IsListed l e c → IsUnseen (constraint_watch p c).scope e
  pub within : (e : Element) (c : ℕ) → IsListed l e c → c < count

-- ---- one constraint more

-- the number c is put into the lists of the numbers that pass, and into no other's
pub record IsPut (passes : ℕ → Type 0) (c : ℕ) (old new : List (List ℕ)) : Type 0 where
  pub count : length new ≡ length old
  pub added : (i : ℕ) → i < length new → passes i → Contains (slice_index_or new i []) c
  pub kept : (i d : ℕ) → Contains (slice_index_or old i []) d → Contains (slice_index_or new i []) d
  pub only : (i d : ℕ) → Contains (slice_index_or new i []) d → Contains (slice_index_or old i []) d ⊎ (d ≡ c)

-- the element has a list
abbrev pub HasList : Lists → Element → Type 0
HasList l (Vm v) = v.0 < length l.machines
HasList l (TheNode n) = n.0 < length l.nodes

-- the constraint is put into the lists of all that it looks at
pub record IsAdded (k : Constraint) (c : ℕ) (old new : Lists) : Type 0 where
  pub machines : length new.machines ≡ length old.machines
  pub nodes : length new.nodes ≡ length old.nodes
  pub unseen : (e : Element) → HasList new e → ¬ IsListed new e c → IsUnseen (scope_of k) e
  pub kept : (e : Element) (d : ℕ) → IsListed old e d → IsListed new e d
  pub only : (e : Element) (d : ℕ) → IsListed new e d → IsListed old e d ⊎ (d ≡ c)

-- ---- dirty by the lists

-- the first of these numbers that are not spared are dirty, and what was dirty still is
pub record AreDirty (spared : ℕ → Type 0) (first : ℕ) (numbers : List ℕ) (m n : Levels) : Type 0 where
  pub older : n.older ≡ m.older
  pub count : length n.top ≡ length m.top
  pub kept : (i : ℕ) → i < length n.top → slice_index_or n.top i false ≡ false → slice_index_or m.top i false ≡ false
  pub others : (i k : ℕ) → i < length n.top → slice_index_or n.top i false ≡ false → k < first → slice_index_or numbers k i ≡ i → spared i

-- each constraint that looks at the element and is not spared is dirty, and what was dirty still is
pub record AreLooking (spared : ℕ → Type 0) (p : Instance) (x : Element) (m n : Levels) : Type 0 where
  pub older : n.older ≡ m.older
  pub count : length n.top ≡ length m.top
  pub kept : (c : ℕ) → c < length n.top → slice_index_or n.top c false ≡ false → slice_index_or m.top c false ≡ false
  pub unseen : (c : ℕ) → c < length n.top → slice_index_or n.top c false ≡ false → IsUnseen (constraint_watch p c).scope x ⊎ spared c
