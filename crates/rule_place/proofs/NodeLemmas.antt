-- The watches of nodes on which a change of a machine does not weigh.
use Rattle.rule_place.proofs.Prelude.{IsTrue, ◌≡◌, ◌≢◌, ◌⊎◌, inl, inr, ℕ, ◌<◌, ◌≤◌, ◌&&◌, Bool, true, false, List, [], ◌∷◌, length, set, refl, sym, ◌∙◌, arith, Contains, false≢true, nat_tests, length-set, Stay, Place, IsMachineLess, surely_each, away, away_least, arrival, kept_law, numbers, of_one, first_of, no_less, cond, nat_lt}
use Rattle.rule_place.specs.Prelude.{Act, AreDirtyUpTo, AreFewer, AreNodesDirty, AreSpared, At, base, Choice, comes_by, gain, GivesUp, goes_in, held_at, hosted_in, Instance, IsEnd, IsInstance, IsLess, IsNoSooner, IsStill, IsUntouched, leave_of, Levels, never, node_count, NodeId, Nowhere, one, Presence, present_at, state_of, usable_watch, Vm, VmId, Weight}
use Rattle.rule_place.proofs.DirtyLemmas.{other}
use Rattle.rule_place.proofs.KeepLemmas.{given_up_still}

-- ---- dirty watches

pub none_spared : (p : Instance) (spared : ℕ → Type 0) (m : Levels) → ((k : ℕ) → spared k) → AreSpared spared m m
none_spared p spared m all = record { older = refl; count = refl; kept = λ i e. e; spared = λ i h e. all i }

pub one_dirty : (n : ℕ) (m : Levels) → n < length m.top → AreSpared (λ k. k ≢ n) m (record m { top = set m.top n true })
one_dirty n m low = record {
  older = refl;
  count = length-set m.top n true;
  kept = λ i e. (other m.top n i low e).1;
  spared = λ i h e same. (other m.top n i low e).0 (omega (arith, same));
}

-- there is no such node
pub past_dirty : (p : Instance) (n : ℕ) (m : Levels) → length m.top ≡ node_count p → node_count p ≤ n → AreSpared (λ k. k ≢ n) m m
past_dirty p n m many past = record { older = refl; count = refl; kept = λ i e. e; spared = λ i h e same. absurd (omega (arith, same, h, many, past)) }

pub all_dirty : (p : Instance) (spared : ℕ → Type 0) (m n : Levels) → AreDirtyUpTo (length m.top) m n → AreSpared spared m n
all_dirty p spared m n dirty = record {
  older = dirty.older;
  count = dirty.count;
  kept = dirty.kept;
  spared = λ i h e. absurd (false≢true (sym e ∙ dirty.dirty i (omega (arith, h, dirty.count)) h));
}

pub spared_weaker : (p : Instance) (P Q : ℕ → Type 0) (m n : Levels) → ((k : ℕ) → P k → Q k) → AreSpared P m n → AreSpared Q m n
spared_weaker p P Q m n to s = record { older = s.older; count = s.count; kept = s.kept; spared = λ i h e. to i (s.spared i h e) }

spared_both : (p : Instance) (P Q : ℕ → Type 0) (m n o : Levels) → AreSpared P m n → AreSpared Q n o → AreSpared (λ k. P k × Q k) m o
spared_both p P Q m n o first second = record {
  older = second.older ∙ first.older;
  count = second.count ∙ first.count;
  kept = λ i e. first.kept i (second.kept i e);
  spared = λ i h e. (first.spared i (omega (arith, h, second.count)) (second.kept i e), second.spared i h e);
}

-- the host, unless it is given up no later, and a place to which not all go
pub untouched : (p : Instance) (v : ℕ) (old now : List Choice) (m n o : Levels) → AreSpared (λ k. (hosted_in (state_of p v) (one k) ≡ false) ⊎ GivesUp p v old now k) m n → AreSpared (λ k. (c : Choice) × Contains now c × (goes_in c (one k) ≡ false)) n o → AreSpared (IsNoSooner p v old now) m o
untouched p v old now m n o host elsewhere =
    spared_weaker p _ (IsNoSooner p v old now) m o (λ k x. elim x.0 [ inl off ↦ inl (record { host = off; elsewhere = x.1 }) | inr given ↦ inr given ]) (spared_both p _ _ m n o host elsewhere)

-- ---- places

pub goes_started : (q : Place) (s k : ℕ) → goes_in (Act q 0) (one k) ≡ false → goes_in (Act q s) (one k) ≡ false
goes_started Nowhere s k g = g
goes_started (At n) s k g = g

pub one_other : (n k : ℕ) → k ≢ n → one k n ≡ false
one_other n k ne = grind (arith, nat_tests, ne)

pub at_spared : (p : Instance) (n : NodeId) (m o : Levels) → AreSpared (λ k. k ≢ n.0) m o → AreSpared (λ k. goes_in (Act (At n) 0) (one k) ≡ false) m o
at_spared p n m o = spared_weaker p _ _ m o (λ k ne. one_other n.0 k ne)

-- ---- a node where a choice holds what it brings alone

module _ (p : Instance) (v k : ℕ) (off : hosted_in (state_of p v) (one k) ≡ false) where
  brought : (w : Weight) (t : ℕ) (c : Choice) → t < never → held_at p v w (one k) t c ≡ cond (comes_by k t (arrival c)) (gain p v w k) 0
  brought w t c short =
      let law = kept_law p v w k t (c ∷ []) (numbers p v c) short (of_one p v c) in
      let nothing : cond (hosted_in (state_of p v) (one k) && nat_lt t (leave_of p v c)) (base p v w) 0 ≡ 0 = rw off refl in
      omega (arith, law, nothing)

  -- a sooner start brings no less
  sooner : (w : Weight) (t u s : ℕ) (q : Place) → t < never → u ≤ s → held_at p v w (one k) t (Act q s) ≤ held_at p v w (one k) t (Act q u)
  sooner w t u s Nowhere short l = omega (arith, brought w t (Act Nowhere s) short, brought w t (Act Nowhere u) short)
  sooner w t u s (At m) short l = omega (arith, brought w t (Act (At m) s) short, brought w t (Act (At m) u) short, no_less (one k m.0) u s t (gain p v w k) l)

  sooner_present : (t u s : ℕ) (q : Place) → t < never → u ≤ s → IsTrue (present_at p v (one k) t (Act q s)) → IsTrue (present_at p v (one k) t (Act q u))
  sooner_present t u s q short l on = let more = sooner Presence t u s q short l in grind (arith, nat_tests, on, more)

-- ---- a node where nothing changes

module _ (p : Instance) (sound : IsInstance p) (v : VmId) (old now : List Choice) (k : ℕ) (fewer : AreFewer now old) (at : IsUntouched p v.0 now k) where
  absent : (t : ℕ) (c : Choice) → goes_in c (one k) ≡ false → present_at p v.0 (one k) t c ≡ false
  absent t c g = rw (away p v.0 Presence (one k) t c at.host g) refl

  -- choices of which one goes elsewhere hold nothing there
  less : (cs ds : List Choice) (t : ℕ) (c : Choice) → Contains cs c → goes_in c (one k) ≡ false → IsMachineLess p (usable_watch p k).scope v.0 t cs ds
  less cs ds t c there g = record {
    held = λ w set i. rw i.1 (omega (arith, away_least p v.0 w (one k) t cs c at.host there g));
    present = λ set i x. absurd (false≢true (sym (absent t c g) ∙ surely_each (present_at p v.0 (one k) t) cs c there (rw i at x)));
    action = λ far i. absurd i;
  }

  -- a start there holds no more than the first one there was
  later : (t u s : ℕ) (q : Place) → t ≤ p.horizon → u ≤ s → IsMachineLess p (usable_watch p k).scope v.0 t (Act q s ∷ []) (Act q u ∷ [])
  later t u s q early l =
      let short : t < never = omega (arith, sound.horizon, early) in
      record {
        held = λ w set i. rw i.1 (sooner p v.0 k at.host w t u s q short l);
        present = λ set i x. rw i (alone (present_at p v.0 (one k) t (Act q u)) (sooner_present p v.0 k at.host t u s q short l (of_alone (present_at p v.0 (one k) t (Act q s)) (rw i at x))));
        action = λ far i. absurd i;
      }
    where
      alone : (b : Bool) → IsTrue b → IsTrue (b && true)
      alone true h = h
      alone false h = h

      of_alone : (b : Bool) → IsTrue (b && true) → IsTrue b
      of_alone true h = h
      of_alone false h = h

  untouched-still : IsStill p (usable_watch p k).scope (Vm v) old now
  untouched-still = record {
    sure = λ t l. less now old t at.elsewhere.0 at.elsewhere.1 at.elsewhere.2;
    ends = λ c end t l. by c end t l;
  }
    where
      by : (c : Choice) → IsEnd now c → (t : ℕ) → t ≤ p.horizon → IsLess p (usable_watch p k).scope (Vm v) t (c ∷ []) old ⊎ ((d : Choice) × IsEnd old d × IsLess p (usable_watch p k).scope (Vm v) t (c ∷ []) (d ∷ []))
      by Stay end t l = inl (less (Stay ∷ []) old t Stay (0, omega arith, refl) refl)
      by (Act q s) end t l =
          let first = first_of old q s (fewer (Act q s) end.0) in
          inr (Act q first.0, (first.1, inl first.2), later t first.0 s q l (first.2 s (fewer (Act q s) end.0)))

pub nodes_spared : (p : Instance) (v : VmId) (old now : List Choice) (m n : Levels) → IsInstance p → AreFewer now old → AreSpared (IsNoSooner p v.0 old now) m n → AreNodesDirty p (Vm v) old now m n
nodes_spared p v old now m n sound fewer s = record {
  older = s.older;
  count = s.count;
  kept = s.kept;
  still = λ i h e. elim (s.spared i h e) [ inl off ↦ untouched-still p sound v old now i fewer off | inr given ↦ given_up_still p sound v old now i fewer given ];
}
