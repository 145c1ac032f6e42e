-- What holds of each pair before and after, one call after the other.
use Rattle.prop_core.proofs.Prelude.{◌≡◌, ℕ, ◌+◌, ◌<◌, ◌≤◌, List, length, get_or, refl, ◌∙◌, arith, All, given_sum, Meaning, most, Pairs, Rise}
use Rattle.prop_core.proofs.AskLemmas.{Rise-same}

module _ {B : Type 0} (m : B → Meaning) where
  pub Pairs-trans : (R S T : Meaning → Meaning → Type 0) (xs ys zs : List B) → ((a b c : Meaning) → R a b → S b c → T a c) → Pairs m R xs ys → Pairs m S ys zs → Pairs m T xs zs
  Pairs-trans R S T xs ys zs both r s = record {
    count = s.count ∙ r.count;
    each = λ k d h. let e : length ys ≡ length xs = r.count in both _ _ _ (r.each k d h) (s.each k d (omega arith));
  }

  pub Pairs-weaker : (R S : Meaning → Meaning → Type 0) (xs ys : List B) → ((a b : Meaning) → R a b → S a b) → Pairs m R xs ys → Pairs m S xs ys
  Pairs-weaker R S xs ys w r = record { count = r.count; each = λ k d h. w _ _ (r.each k d h) }

  pub Pairs-same : (R : Meaning → Meaning → Type 0) (xs : List B) → ((a : Meaning) → R a a) → Pairs m R xs xs
  Pairs-same R xs s = record { count = refl; each = λ k d h. s _ }

  pub All-after : (P Q : Meaning → Type 0) (R : Meaning → Meaning → Type 0) (xs ys : List B) → ((a b : Meaning) → P a → R a b → Q b) → All (λ b. P (m b)) xs → Pairs m R xs ys → All (λ b. Q (m b)) ys
  All-after P Q R xs ys step all r k d h =
      let e : length ys ≡ length xs = r.count in
      let h' : k < length xs = omega arith in
      step _ _ (all k d h') (r.each k d h')

  pub Rise-trans : (i j : ℕ) (xs ys zs : List B) → length ys ≡ length xs → length zs ≡ length ys → Rise m i xs ys → Rise m j ys zs → Rise m (i + j) xs zs
  Rise-trans i j xs ys zs e f r s = record {
    grown = λ k d h. let a = r.grown k d h in let b = s.grown k d (omega arith) in omega arith;
    risen = λ full.
        let before : All (λ b. (m b).given < most) ys = λ k d h. (let a = s.grown k d h in let b : (m (get_or zs k d)).given < most = full k d (omega arith) in omega arith) in
        let a : given_sum m xs + i ≤ given_sum m ys = r.risen before in
        let b : given_sum m ys + j ≤ given_sum m zs = s.risen full in
        omega arith;
  }

  pub Rise-from_same : (R : Meaning → Meaning → Type 0) (xs ys : List B) → ((a b : Meaning) → R a b → b.given ≡ a.given) → Pairs m R xs ys → Rise m 0 xs ys
  Rise-from_same R xs ys same r = Rise-same m xs ys (record { count = r.count; each = λ k d h. same _ _ (r.each k d h) })
