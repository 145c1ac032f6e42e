-- What a change of one element's choices weighs on.
use Rattle.std.specs.Prelude.{◌≡◌, ◌⊎◌, ℕ, ◌<◌, ◌≤◌, Bool, false, List, [], ◌∷◌, length, slice_index_or, IsTrue}
use Rattle.rule_frame.specs.Words.{action_at, held_at, Instance, IsClean, IsEnd, least, may, Nodes, powered_at, present_at, putting, Scope, Sets, surely, usable_at, Watch, Choice, Element, Vm, TheNode, Weight, Progress}
use Rattle.rule_frame.specs.Levels.{Levels}

-- ---- one set of choices beside another, at an instant

-- as far as a scope looks, the choices cs of a machine weigh no more than its choices ds
pub record IsMachineLess (p : Instance) (k : Scope) (v t : ℕ) (cs ds : List Choice) : Type 0 where
  pub held : (w : Weight) (set : Nodes) → k.held v w set → least (held_at p v w set t) cs ≤ least (held_at p v w set t) ds
  pub present : (set : Nodes) → k.present v set → IsTrue (surely (present_at p v set t) cs) → IsTrue (surely (present_at p v set t) ds)
  pub action : (far : Progress) → k.action v far → IsTrue (surely (action_at p v far t) cs) → IsTrue (surely (action_at p v far t) ds)

-- and those of a node
pub record IsNodeLess (p : Instance) (k : Scope) (n t : ℕ) (cs ds : List Choice) : Type 0 where
  pub usable : k.usable n → IsTrue (may (usable_at p n t) ds) → IsTrue (may (usable_at p n t) cs)
  pub powered : k.powered n → IsTrue (surely (powered_at p n t) cs) → IsTrue (surely (powered_at p n t) ds)

abbrev pub IsLess : Instance → Scope → Element → ℕ → List Choice → List Choice → Type 0
IsLess p k (Vm v) t cs ds = IsMachineLess p k v.0 t cs ds
IsLess p k (TheNode n) t cs ds = IsNodeLess p k n.0 t cs ds

-- ---- a change

-- the choices now weigh no more than the old ones, and each end of them no more than the old ones or than an old end
pub record IsStill (p : Instance) (k : Scope) (x : Element) (old now : List Choice) : Type 0 where
  pub sure : (t : ℕ) → t ≤ p.horizon → IsLess p k x t now old
  pub ends : (c : Choice) → IsEnd now c → (t : ℕ) → t ≤ p.horizon →
      IsLess p k x t (c ∷ []) old ⊎ ((d : Choice) × IsEnd old d × IsLess p k x t (c ∷ []) (d ∷ []))

-- the watch is clean in the sets as they are, if it was clean with the old choices of x
abbrev pub StaysClean : Watch → Instance → Sets → Element → List Choice → Type 0
StaysClean w p s x old = IsClean w p (putting x old s) → IsClean w p s

-- ---- dirty watches

-- each watch that is not dirty is clean
pub record AreClean (watch : ℕ → Watch) (p : Instance) (s : Sets) (flags : List Bool) : Type 0 where
  pub clean : (i : ℕ) → i < length flags → slice_index_or flags i false ≡ false → IsClean (watch i) p s

-- each watch on which a change of x weighs, and which it may leave not clean, is dirty, and what was dirty still is
pub record IsDisturbed (watch : ℕ → Watch) (p : Instance) (s : Sets) (x : Element) (old : List Choice) (m n : Levels) : Type 0 where
  pub older : n.older ≡ m.older
  pub count : length n.top ≡ length m.top
  pub kept : (i : ℕ) → i < length n.top → slice_index_or n.top i false ≡ false → slice_index_or m.top i false ≡ false
  pub still : (i : ℕ) → i < length n.top → slice_index_or n.top i false ≡ false → IsStill p (watch i).scope x old (s x) ⊎ StaysClean (watch i) p s x old

-- each watch that is not dirty is clean, and the levels below are as they were
pub record IsKept (watch : ℕ → Watch) (p : Instance) (s : Sets) (m n : Levels) : Type 0 where
  pub older : n.older ≡ m.older
  pub count : length n.top ≡ length m.top
  pub clean : AreClean watch p s n.top

-- and the first watches are not dirty
pub record IsCleanUpTo (watch : ℕ → Watch) (p : Instance) (s : Sets) (first : ℕ) (m n : Levels) : Type 0 where
  pub kept : IsKept watch p s m n
  pub done : (i : ℕ) → i < first → slice_index_or n.top i false ≡ false
