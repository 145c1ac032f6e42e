-- Watches that are looked at one after the other.
use Rattle.rule_frame.proofs.Prelude.{◌≡◌, ◌≢◌, ◌⊎◌, inl, inr, ℕ, ◌+◌, ◌<◌, ◌≤◌, false, length, get_or, set, sym, subst, ◌∙◌, arith, cases_eq, get_or-set_other, length-set, get_or-set_at, refl, Bool, List, AllClean, AreClean, Instance, IsClean, IsCleanUpTo, IsKept, Levels, Sets, Watch}

module _ (watch : ℕ → Watch) (p : Instance) (s : Sets) (i : ℕ) (m n : Levels) (so_far : IsCleanUpTo watch p s i m n) where
  -- the next watch is not dirty
  pub clean_next : get_or n.top i false ≡ false → IsCleanUpTo watch p s (i + 1) m n
  clean_next none = record { kept = so_far.kept; done = at }
    where
      at : (k : ℕ) → k < i + 1 → get_or n.top k false ≡ false
      at k h = elim (cases_eq k i) [ inl same ↦ subst (λ j. get_or n.top j false ≡ false) (sym same) none | inr ne ↦ so_far.done k (omega (arith, h, ne)) ]

  -- it is found clean, and is dirty no more
  pub clean_found : i < length n.top → IsClean (watch i) p s → IsCleanUpTo watch p s (i + 1) m (record n { top = set n.top i false })
  clean_found within clean = record {
    kept = record {
      older = so_far.kept.older;
      count = length-set n.top i false ∙ so_far.kept.count;
      clean = record { clean = λ k h e. at k (cases_eq k i) (omega (arith, h, length-set n.top i false)) e };
    };
    done = λ k h. gone k h (cases_eq k i);
  }
    where
      at : (k : ℕ) → (k ≡ i) ⊎ (k ≢ i) → k < length n.top → get_or (set n.top i false) k false ≡ false → IsClean (watch k) p s
      at k (inl same) h e = subst (λ j. IsClean (watch j) p s) (sym same) clean
      at k (inr ne) h e = so_far.kept.clean.clean k h (sym (get_or-set_other n.top i k false false ne) ∙ e)

      gone : (k : ℕ) → k < i + 1 → (k ≡ i) ⊎ (k ≢ i) → get_or (set n.top i false) k false ≡ false
      gone k h (inl same) = get_or-set_at n.top i k false false same within
      gone k h (inr ne) = get_or-set_other n.top i k false false ne ∙ so_far.done k (omega (arith, h, ne))

  pub clean_all : (count : ℕ) → length m.top ≡ count → count ≤ i → AllClean watch p s count
  clean_all count many past = record { clean = λ k h. so_far.kept.clean.clean k (omega (arith, h, so_far.kept.count, many)) (so_far.done k (omega (arith, h, past))) }

-- no watch is dirty, so each is clean
pub all_clean : (watch : ℕ → Watch) (p : Instance) (s : Sets) (flags : List Bool) (count : ℕ) → AreClean watch p s flags → length flags ≡ count → ((i : ℕ) → i < length flags → get_or flags i false ≡ false) → AllClean watch p s count
all_clean watch p s flags count clean many none = record { clean = λ i h. clean.clean i (omega (arith, h, many)) (none i (omega (arith, h, many))) }

-- where nothing is changed all is kept
pub kept_same : (watch : ℕ → Watch) (p : Instance) (s : Sets) (m : Levels) → AreClean watch p s m.top → IsKept watch p s m m
kept_same watch p s m clean = record { older = refl; count = refl; clean = clean }
