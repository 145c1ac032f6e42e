-- Which watches of nodes are dirty.
use Rattle.rule_place.proofs.Prelude.{◌≡◌, ◌≢◌, ◌⊎◌, inl, inr, ℕ, ◌+◌, ◌<◌, ◌≤◌, Bool, true, false, List, length, get_or, set, refl, sym, ◌∙◌, arith, cases_eq, false≢true, get_or-set_other, length-set, get_or-set_at, AreDirtyUpTo, AreNodesDirty, Choice, Element, Instance, Levels, TheNode, NodeId, usable_watch, unseen_still}

-- ---- one more is dirty

-- what is not dirty after one more is was not dirty before, and is another one
pub other : (flags : List Bool) (k i : ℕ) → k < length flags → get_or (set flags k true) i false ≡ false → (i ≢ k) × (get_or flags i false ≡ false)
other flags k i low e = by (cases_eq i k)
  where
    by : (i ≡ k) ⊎ (i ≢ k) → (i ≢ k) × (get_or flags i false ≡ false)
    by (inl same) = absurd (false≢true (sym e ∙ get_or-set_at flags k i true false same low))
    by (inr ne) = (ne, sym (get_or-set_other flags k i true false ne) ∙ e)

pub dirty_none : (m : Levels) → AreDirtyUpTo 0 m m
dirty_none m = record { older = refl; count = refl; kept = λ i e. e; dirty = λ i below h. absurd (omega (arith, below)) }

pub dirty_more : (k : ℕ) (m n : Levels) → k < length n.top → AreDirtyUpTo k m n → AreDirtyUpTo (k + 1) m (record n { top = set n.top k true })
dirty_more k m n low dirty = record {
  older = dirty.older;
  count = length-set n.top k true ∙ dirty.count;
  kept = λ i e. dirty.kept i (other n.top k i low e).1;
  dirty = λ i below h. at i below (omega (arith, h, length-set n.top k true)) (cases_eq i k);
}
  where
    at : (i : ℕ) → i < k + 1 → i < length n.top → (i ≡ k) ⊎ (i ≢ k) → get_or (set n.top k true) i false ≡ true
    at i below h (inl same) = get_or-set_at n.top k i true false same low
    at i below h (inr ne) = get_or-set_other n.top k i true false ne ∙ dirty.dirty i (omega (arith, below, ne)) h

-- ---- the watches of nodes

-- all of them are dirty
pub nodes_from : (p : Instance) (x : Element) (old now : List Choice) (m n : Levels) (end : ℕ) → length m.top ≤ end → AreDirtyUpTo end m n → AreNodesDirty p x old now m n
nodes_from p x old now m n end all dirty = record {
  older = dirty.older;
  count = dirty.count;
  kept = dirty.kept;
  still = λ i h e. absurd (false≢true (sym e ∙ dirty.dirty i (omega (arith, h, all, dirty.count)) h));
}

-- the one of a node is, which alone looks at it
pub node_alone : (p : Instance) (k : NodeId) (old now : List Choice) (m : Levels) → k.0 < length m.top → AreNodesDirty p (TheNode k) old now m (record m { top = set m.top k.0 true })
node_alone p k old now m low = record {
  older = refl;
  count = length-set m.top k.0 true;
  kept = λ i e. (other m.top k.0 i low e).1;
  still = λ i h e.
      let ne = (other m.top k.0 i low e).0 in
      unseen_still p (usable_watch p i).scope (TheNode k) old now (record { usable = λ same. ne (omega (arith, same)); powered = λ none. none });
}
