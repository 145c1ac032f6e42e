-- A loop that changes one rule after the other.
use Rattle.prop_core.proofs.Prelude.{set, length-set, ◌≡◌, ℕ, ◌+◌, ◌<◌, ◌≤◌, ◌≢◌, List, length, get_or, refl, ◌∙◌, arith, inl, inr, get_or-set_other, get_or-set_same, cases_eq, cases_lt, Meaning, Pairs}

-- the rules below the index i have changed by R, and the others are the old ones
pub record Turned {B : Type 0} (m : B → Meaning) (R : Meaning → Meaning → Type 0) (i : ℕ) (xs ys : List B) : Type 0 where
  pub count : length ys ≡ length xs
  pub done : (k : ℕ) (d : B) → k < i → k < length xs → R (m (get_or xs k d)) (m (get_or ys k d))
  pub rest : (k : ℕ) (d : B) → i ≤ k → get_or ys k d ≡ get_or xs k d

pub Turned-none : {B : Type 0} (m : B → Meaning) (R : Meaning → Meaning → Type 0) (xs : List B) → Turned m R 0 xs xs
Turned-none m R xs = record { count = refl; done = λ k d h in'. absurd (omega arith); rest = λ k d h. refl }

-- what R says of the rule at i, which is written, and of the others, which stay
pub at_set : {B : Type 0} (m : B → Meaning) (P : Meaning → Type 0) (ys : List B) (i k : ℕ) (y d : B) → i < length ys → (k ≡ i → P (m y)) → (k ≢ i → P (m (get_or ys k d))) → P (m (get_or (set ys i y) k d))
at_set m P ys i k y d h here there =
    elim (cases_eq k i) [
      | inl e ↦ rw e (rw (get_or-set_same ys i y d) (here e))
      | inr ne ↦ rw (get_or-set_other ys i k y d ne) (there ne)
    ]

pub Turned-more : {B : Type 0} (m : B → Meaning) (R : Meaning → Meaning → Type 0) (i : ℕ) (xs ys : List B) (y : B) → i < length xs → Turned m R i xs ys → ((d : B) → R (m (get_or xs i d)) (m y)) → Turned m R (i + 1) xs (set ys i y)
Turned-more m R i xs ys y h t r =
    let e : length ys ≡ length xs = t.count in
    let h' : i < length ys = omega arith in
    record {
      count = simp length-set e;
      done = λ k d lt in'. at_set m (R (m (get_or xs k d))) ys i k y d h' (λ e. rw e (r d)) (λ ne. t.done k d (omega arith) in');
      rest = λ k d le. let ne : k ≢ i = omega arith in get_or-set_other ys i k y d ne ∙ t.rest k d (omega arith);
    }

pub Turned-all : {B : Type 0} (m : B → Meaning) (R : Meaning → Meaning → Type 0) (i : ℕ) (xs ys : List B) → length xs ≤ i → Turned m R i xs ys → Pairs m R xs ys
Turned-all m R i xs ys h t = record { count = t.count; each = λ k d in'. t.done k d (omega arith) in' }

-- the loop stops in the midst: each rule before it has changed by R, the one at i by S, and the others not at all
pub Turned-stopped : {B : Type 0} (m : B → Meaning) (R S : Meaning → Meaning → Type 0) (i : ℕ) (xs ys : List B) (y : B) → i < length xs → Turned m R i xs ys → ((a b : Meaning) → R a b → S a b) → ((a : Meaning) → S a a) → ((d : B) → S (m (get_or xs i d)) (m y)) → Pairs m S xs (set ys i y)
Turned-stopped m R S i xs ys y h t weaker same r =
    let e : length ys ≡ length xs = t.count in
    let h' : i < length ys = omega arith in
    record {
      count = simp length-set e;
      each = λ k d in'. at_set m (S (m (get_or xs k d))) ys i k y d h' (λ e. rw e (r d)) (λ ne. elim (cases_lt k i) [ inl lt ↦ weaker _ _ (t.done k d lt in') | inr ge ↦ rw (t.rest k d ge) (same _) ]);
    }
