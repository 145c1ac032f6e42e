-- The numbers of all machines after a change of one.
use Rattle.standings.proofs.Prelude.{◌≡◌, inl, inr, ℕ, zero, suc, ◌+◌, ◌<◌, ◌==◌, false, List, [], ◌∷◌, ◌++◌, length, get_or, refl, sym, ap, subst, ◌∙◌, arith, slice_set, slice_index_or, get_or-append_seam, get_or_append_left, length-append, length-set, get_or-set_same, get_or-set_other, cases_eq, ne_eqb, AreStanding, AreStandingUpTo, Choice, Instance, IsStanding, machine_count, no_standing, Sets, Standing, vm, putting}

-- what is there already changes nothing
pub set_same : (top : List Standing) (v : ℕ) (k d : Standing) → k ≡ slice_index_or top v d → slice_set top v k ≡ top
set_same [] zero k d e = refl
set_same [] (suc v) k d e = refl
set_same (x ∷ xs) zero k d e = rw e refl
set_same (x ∷ xs) (suc v) k d e = ap (λ t. x ∷ t) (set_same xs v k d e)

-- ---- one machine's numbers

-- what holds of each item holds with one more
pub each_push : {A : Type 0} (P : ℕ → A → Type 0) (d : A) (n : ℕ) (xs : List A) (x : A) → length xs ≡ n → ((v : ℕ) → v < n → P v (slice_index_or xs v d)) → P n x → (v : ℕ) → v < n + 1 → P v (slice_index_or (xs ++ x ∷ []) v d)
each_push P d n xs x count each is v h = elim (cases_eq v n) [
  | inl same ↦
      let at : slice_index_or (xs ++ x ∷ []) n d ≡ x = ap (λ i. slice_index_or (xs ++ x ∷ []) i d) (sym count) ∙ get_or-append_seam xs x [] d in
      rw (same, at) is
  | inr other ↦ rw (get_or_append_left xs (x ∷ []) d v (omega (arith, count))) (each v (omega arith))
]

pub first_push : (p : Instance) (s : Sets) (n : ℕ) (ks : List Standing) (k : Standing) → AreStandingUpTo p s n ks → IsStanding p n (s (vm n)) k → AreStandingUpTo p s (n + 1) (ks ++ k ∷ [])
first_push p s n ks k first is = record {
  count = omega (arith, length-append ks (k ∷ []), first.count);
  each = each_push (λ v k. IsStanding p v (s (vm v)) k) no_standing n ks k first.count first.each is;
}

pub standing_put : (p : Instance) (s : Sets) (v : ℕ) (cs : List Choice) (ks : List Standing) (k : Standing) → AreStanding p (putting (vm v) cs s) ks → v < machine_count p → IsStanding p v (s (vm v)) k → AreStanding p s (slice_set ks v k)
standing_put p s v cs ks k was h is = record {
  count = length-set ks v k ∙ was.count;
  each = λ i l. elim (cases_eq i v) [
    | inl same ↦ rw (same, get_or-set_same ks v k no_standing (omega (arith, was.count))) is
    | inr other ↦
        rw (get_or-set_other ks v i k no_standing other)
        (subst (λ cs. IsStanding p i cs (get_or ks i no_standing)) (let off : (i == v) ≡ false = ne_eqb i v other in rw off refl) (was.each i l))
  ];
}
