-- The loop that asks one propagator after the other, and counts.
use Rattle.prop_core.proofs.Prelude.{set, length-set, ◌≡◌, ℕ, suc, ◌+◌, ◌<◌, ◌≤◌, List, [], ◌∷◌, length, get_or, refl, arith, inl, inr, get_or-set_other, get_or-set_same, at_read, sum_by-cons, sum_by-set, cases_eq, cases_lt, AllQuiet, given_sum, Instance, IsAsked, Meaning, most, Rise, Sets}
use Rattle.prop_core.proofs.TurnLemmas.{Turned}

pub record AskedQuiet (p : Instance) (s : Sets) (m n : Meaning) : Type 0 where
  pub asked : IsAsked p s m n
  pub given : n.given ≡ m.given
  pub quiet : AllQuiet p s m

-- each count is as it was
pub record SameCounts {B : Type 0} (m : B → Meaning) (xs ys : List B) : Type 0 where
  pub count : length ys ≡ length xs
  pub each : (k : ℕ) (d : B) → k < length xs → (m (get_or ys k d)).given ≡ (m (get_or xs k d)).given

pub given_sum-same : {B : Type 0} (m : B → Meaning) (xs ys : List B) → SameCounts m xs ys → given_sum m ys ≡ given_sum m xs
given_sum-same m [] [] s = refl
given_sum-same m [] (y ∷ ys) s = let e : suc (length ys) ≡ 0 = s.count in absurd (omega arith)
given_sum-same m (x ∷ xs) [] s = let e : 0 ≡ suc (length xs) = s.count in absurd (omega arith)
given_sum-same m (x ∷ xs) (y ∷ ys) s =
    let e : suc (length ys) ≡ suc (length xs) = s.count in
    let here : (m y).given ≡ (m x).given = s.each 0 x (omega arith) in
    let rest : given_sum m ys ≡ given_sum m xs = given_sum-same m xs ys (record { count = omega arith; each = λ k d h. s.each (suc k) d (omega arith) }) in
    rw (sum_by-cons (λ b. (m b).given) y ys, sum_by-cons (λ b. (m b).given) x xs, here, rest) refl

pub Rise-same : {B : Type 0} (m : B → Meaning) (xs ys : List B) → SameCounts m xs ys → Rise m 0 xs ys
Rise-same m xs ys s = record {
  grown = λ k d h. let e = s.each k d h in omega arith;
  risen = λ _. let e = given_sum-same m xs ys s in omega arith;
}

-- one rule's count goes up by n, which is 0 or 1, where it does not stand at its end
pub Rise-one : {B : Type 0} (m : B → Meaning) (n i : ℕ) (xs ys : List B) (y : B) → i < length xs → SameCounts m xs ys → ((d : B) → ((m (get_or ys i d)).given ≤ (m y).given) × ((m y).given < most → (m (get_or ys i d)).given + n ≤ (m y).given)) → Rise m n xs (set ys i y)
Rise-one {B} m n i xs ys y h s r =
    let e : length ys ≡ length xs = s.count in
    let h' : i < length ys = omega arith in
    record {
      grown = λ k d in'. elim (cases_eq k i) [
        | inl e' ↦ rw e' (rw (get_or-set_same ys i y d h') (let u = (r d).0 in let w : (m (get_or ys i d)).given ≡ (m (get_or xs i d)).given = s.each i d h in omega arith))
        | inr ne ↦ rw (get_or-set_other ys i k y d ne) (let w = s.each k d in' in omega arith)
      ];
      risen = λ full.
          let short : (m y).given < most = rw (get_or-set_same ys i y y h') at (full i y (rw length-set h')) in
          let one : (m (get_or ys i y)).given + n ≤ (m y).given = (r y).1 short in
          let whole = sum_by-set (λ (b : B). (m b).given) ys i y y h' in
          let old : given_sum m ys ≡ given_sum m xs = given_sum-same m xs ys s in
          omega arith;
    }

pub counts_of : {B : Type 0} (m : B → Meaning) (p : Instance) (s : Sets) (i : ℕ) (xs ys : List B) → Turned m (AskedQuiet p s) i xs ys → SameCounts m xs ys
counts_of m p g i xs ys t = record {
  count = t.count;
  each = λ k d h. elim (cases_lt k i) [ inl lt ↦ (t.done k d lt h).given | inr ge ↦ rw (t.rest k d ge) refl ];
}

-- the same, where x is what was read at i
pub Rise-at : {B : Type 0} (m : B → Meaning) (n i : ℕ) (xs ys : List B) (x y : B) → i < length xs → SameCounts m xs ys → x ≡ get_or ys i x → (m x).given ≤ (m y).given → ((m y).given < most → (m x).given + n ≤ (m y).given) → Rise m n xs (set ys i y)
Rise-at {B} m n i xs ys x y h s e up full =
    let c : length ys ≡ length xs = s.count in
    Rise-one m n i xs ys y h s (λ d. at_read ys (λ (b : B). ((m b).given ≤ (m y).given) × ((m y).given < most → (m b).given + n ≤ (m y).given)) i x (omega arith) e (up, full) d)
