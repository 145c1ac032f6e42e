-- What a machine has on a set of nodes while all of its choices keep its host.
use Rattle.rule_setload.proofs.Prelude.{◌≡◌, ℕ, ◌+◌, ◌<◌, ◌≤◌, Decides-eqb, Some, true, cond, nat_lt, List, [], ◌∷◌, ◌++◌, length, length-append, slice_get, slice_index_or, refl, subst, sym, ◌∙◌, arith, each_push, sum_to-term, held_by_node, kept_law, nat_tests}
use Rattle.rule_setload.specs.Prelude.{AreAllHolders, AreHolders, AreKept, base, Bound, bound_in, bound_of, Choice, Constraint, form_of, has_node, held_at, Holder, HoldsLeast, hosted_in, Instance, IsInstance, IsKept, IsStanding, kept_use, least, max_amount, no_holder, node_count, Nodes, one, Period, Sets, Standing, state_of, sure, vm, Weight}

-- ---- one machine

pub one_self : (n : ℕ) → one n n ≡ true
one_self n = (Decides-eqb n n).1 refl

least-more : (f g : Choice → ℕ) (cs : List Choice) → ((c : Choice) → f c ≤ g c) → least f cs ≤ least g cs
least-more f g [] h = omega arith
least-more f g (c ∷ []) h = let here = h c in omega (arith, here)
least-more f g (c ∷ d ∷ ds) h = let here = h c in let rest = least-more f g (d ∷ ds) h in omega (arith, here, rest)

module _ (p : Instance) (sound : IsInstance p) (w : Weight) (set : Nodes) (v : ℕ) where
  -- on one node of the set
  pub at_node : (cs : List Choice) (k : Standing) (n t : ℕ) → n < node_count p → set n ≡ true → t ≤ p.horizon → IsStanding p v cs k → kept_use p v w n t k ≤ least (held_at p v w set t) cs
  at_node cs k n t low on l is =
      let law : least (held_at p v w (one n) t) cs ≡ kept_use p v w n t k = kept_law p v w n t cs k (omega (arith, sound.horizon, l)) is in
      omega (arith, law, least-more (held_at p v w (one n) t) (held_at p v w set t) cs (λ c. more c))
    where
      more : (c : Choice) → held_at p v w (one n) t c ≤ held_at p v w set t c
      more c =
          let term = sum_to-term (node_count p) (λ m. cond (set m) (held_at p v w (one m) t c) 0) n low in
          let here : cond (set n) (held_at p v w (one n) t c) 0 ≡ held_at p v w (one n) t c = rw on refl in
          omega (arith, held_by_node p sound v w set t c, term, here)

  pub host_kept : (n m : ℕ) → n < node_count p → set n ≡ true → ((nodes : Nodes) → hosted_in (state_of p v) nodes ≡ nodes n) → m ≡ base p v w → m ≤ max_amount → IsKept p w set v m
  host_kept n m low on tells is small = record {
    held = λ cs k t standing l late. omega (arith, is, at_node cs k n t low on l standing, had k t late);
    small = small;
  }
    where
      had : (k : Standing) (t : ℕ) → t < k.leave → base p v w ≤ kept_use p v w n t k
      had k t l =
          let hosted : hosted_in (state_of p v) (one n) ≡ true = tells (one n) ∙ one_self n in
          let before : nat_lt t k.leave ≡ true = grind (arith, nat_tests, l) in
          rw (hosted, before) (omega arith)

pub none_kept : (p : Instance) (w : Weight) (set : Nodes) (v m : ℕ) → m ≡ 0 → IsKept p w set v m
none_kept p w set v m none = record { held = λ cs k t is l late. omega (arith, none); small = omega (arith, none) }

pub kept_holds : (p : Instance) (s : Sets) (w : Weight) (set : Nodes) (v : ℕ) (x : Period) (k : Standing) (stays : ℕ) → IsStanding p v (s (vm v)) k → IsKept p w set v stays → x.to ≤ p.horizon → x.to < k.leave → HoldsLeast p s w set v x stays
unfolding sure
kept_holds p s w set v x k stays is kept within late = record { each = λ t h. kept.held (s (vm v)) k t is (omega (arith, h.1, within)) (omega (arith, h.1, late)) }

-- ---- lists

pub listed_kept : (p : Instance) (b : Bound) (xs : List Holder) (i v : ℕ) → AreKept p b xs → i < length xs → (slice_index_or xs i no_holder).machine.0 ≡ v → IsKept p b.weight (has_node b.nodes) v (slice_index_or xs i no_holder).amount
listed_kept p b xs i v all low same = subst (λ u. IsKept p b.weight (has_node b.nodes) u (slice_index_or xs i no_holder).amount) same (all.each i low)

pub none_listed : (p : Instance) (b : Bound) → AreKept p b []
none_listed p b = record { each = λ i low. absurd (omega (arith, low)) }

pub next_holder : (p : Instance) (b : Bound) (xs : List Holder) (x : Holder) → AreKept p b xs → IsKept p b.weight (has_node b.nodes) x.machine.0 x.amount → AreKept p b (xs ++ x ∷ [])
next_holder p b xs x before here = record {
  each = λ i low. each_push (λ d y. IsKept p b.weight (has_node b.nodes) y.machine.0 y.amount) no_holder (length xs) xs x refl before.each here i (omega (arith, low, length-append xs (x ∷ [])));
}

pub no_holders : (p : Instance) → AreAllHolders p 0 []
no_holders p = record { count = refl; each = λ c low. absurd (omega (arith, low)) }

pub next_holders : (p : Instance) (c : ℕ) (ls : List (List Holder)) (xs : List Holder) → AreAllHolders p c ls → AreHolders p (bound_in (slice_get p.constraints c)) xs → AreAllHolders p (c + 1) (ls ++ xs ∷ [])
next_holders p c ls xs before here = record {
  count = omega (arith, length-append ls (xs ∷ []), before.count);
  each = each_push (λ d ys. AreHolders p (bound_in (slice_get p.constraints d)) ys) [] c ls xs before.count before.each here;
}

pub holders_at : (p : Instance) (c : ℕ) (k : Constraint) (b : Bound) (ls : List (List Holder)) (xs : List Holder) → slice_get p.constraints c ≡ Some k → bound_of (form_of k) ≡ Some b → AreAllHolders p (length p.constraints) ls → c < length p.constraints → xs ≡ slice_index_or ls c [] → AreKept p b xs
holders_at p c k b ls xs read is all low same =
    subst (λ ys. AreHolders p (Some b) ys) (sym same) (subst (λ o. AreHolders p o (slice_index_or ls c [])) is (subst (λ o. AreHolders p (bound_in o) (slice_index_or ls c [])) read (all.each c low)))
