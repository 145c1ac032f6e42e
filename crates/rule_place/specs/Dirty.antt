-- What is dirty where a change may weigh on the watches of nodes.
use Rattle.std.specs.Prelude.{◌≡◌, ◌≢◌, ◌⊎◌, ℕ, ◌<◌, ◌≤◌, true, false, List, [], length, slice_index_or}
use Rattle.std.specs.List.{Contains}
use Rattle.rule_place.specs.Words.{goes_in, has_come, hosted_in, Instance, IsStill, least, leave_of, Levels, one, state_of, usable_watch, Choice, Element}

-- those before `end` are dirty, and what was dirty still is
pub record AreDirtyUpTo (end : ℕ) (m n : Levels) : Type 0 where
  pub older : n.older ≡ m.older
  pub count : length n.top ≡ length m.top
  pub kept : (i : ℕ) → slice_index_or n.top i false ≡ false → slice_index_or m.top i false ≡ false
  pub dirty : (i : ℕ) → i < end → i < length n.top → slice_index_or n.top i false ≡ true

-- each watch of a node is dirty on which a change of x weighs, and what was dirty still is
pub record AreNodesDirty (p : Instance) (x : Element) (old now : List Choice) (m n : Levels) : Type 0 where
  pub older : n.older ≡ m.older
  pub count : length n.top ≡ length m.top
  pub kept : (i : ℕ) → slice_index_or n.top i false ≡ false → slice_index_or m.top i false ≡ false
  pub still : (i : ℕ) → i < length n.top → slice_index_or n.top i false ≡ false → IsStill p (usable_watch p i).scope x old now

-- each watch of a node is dirty that is not spared, and what was dirty still is
pub record AreSpared (passes : ℕ → Type 0) (m n : Levels) : Type 0 where
  pub older : n.older ≡ m.older
  pub count : length n.top ≡ length m.top
  pub kept : (i : ℕ) → slice_index_or n.top i false ≡ false → slice_index_or m.top i false ≡ false
  pub spared : (i : ℕ) → i < length n.top → slice_index_or n.top i false ≡ false → passes i

-- the machine has choices, gives its host up no later than before, and comes to node k by no instant up to the horizon
pub record GivesUp (p : Instance) (v : ℕ) (old now : List Choice) (k : ℕ) : Type 0 where
  pub some : now ≢ []
  pub soon : least (leave_of p v) now ≤ least (leave_of p v) old
  pub away : (c : Choice) (t : ℕ) → Contains now c → t ≤ p.horizon → has_come k t c ≡ false

-- a node that is not the machine's host, and to which not all choices go that are left
pub record IsUntouched (p : Instance) (v : ℕ) (now : List Choice) (k : ℕ) : Type 0 where
  pub host : hosted_in (state_of p v) (one k) ≡ false
  pub elsewhere : (c : Choice) × Contains now c × (goes_in c (one k) ≡ false)

-- such a node, or a host that the machine gives up no later
abbrev pub IsNoSooner : Instance → ℕ → List Choice → List Choice → ℕ → Type 0
IsNoSooner p v old now k = IsUntouched p v now k ⊎ GivesUp p v old now k
