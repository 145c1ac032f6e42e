-- Lists of machines that grow.
use Rattle.profiles.proofs.Prelude.{◌≡◌, ◌≢◌, ◌⊎◌, inl, inr, ℕ, ◌+◌, ◌<◌, ◌≤◌, nat_lt, true, false, List, [], ◌∷◌, ◌++◌, length, replicate, refl, sym, subst, ◌∙◌, arith, slice_set, Contains, cases_Bool, cases_eq, false≢true, nat_tests, get_or-replicate, get_or-set_same, get_or-set_other, get_or_past, length-replicate, length-set, Contains-append_left, Contains-push, Contains-push_cases, AreMachines, AreNear, hosted_in, Instance, IsEachOnce, IsNear, IsPut, list_at, machine_count, node_count, one, state_of}
use Rattle.profiles.proofs.SumLemmas.{once_more}

-- ---- one machine more

-- a machine that is there already
pub put_there : (xs : List (List ℕ)) (n v : ℕ) → Contains (list_at xs n) v → IsPut n v xs xs
put_there xs n v h = record { count = refl; there = λ low. h; kept = λ m w k. k; only = λ m w k. inl k; once = λ m k. k }

-- a node that is not there
pub put_past : (xs : List (List ℕ)) (n v : ℕ) → length xs ≤ n → IsPut n v xs xs
put_past xs n v past = record { count = refl; there = λ low. absurd (omega (arith, low, past)); kept = λ m w k. k; only = λ m w k. inl k; once = λ m k. k }

-- a new one, at the end of the list
pub put_new : (xs : List (List ℕ)) (n v : ℕ) → n < length xs → ¬ Contains (list_at xs n) v → IsPut n v xs (slice_set xs n (list_at xs n ++ v ∷ []))
put_new xs n v low out = record {
  count = length-set xs n (list_at xs n ++ v ∷ []);
  there = λ l. rw here (Contains-push (list_at xs n) v);
  kept = λ m w k. elim (cases_eq m n) [ inl same ↦ rw same (rw here (Contains-append_left (list_at xs n) (v ∷ []) w (subst (λ i. Contains (list_at xs i) w) same k))) | inr other ↦ rw (beside m other) k ];
  only = λ m w k. elim (cases_eq m n) [
    | inl same ↦ elim (Contains-push_cases (list_at xs n) v w (subst (λ ys. Contains ys w) here (subst (λ i. Contains (list_at (slice_set xs n (list_at xs n ++ v ∷ [])) i) w) same k))) [ inl old ↦ inl (subst (λ i. Contains (list_at xs i) w) (sym same) old) | inr new ↦ inr (sym new) ]
    | inr other ↦ inl (subst (λ ys. Contains ys w) (beside m other) k)
  ];
  once = λ m k. elim (cases_eq m n) [ inl same ↦ rw same (rw here (once_more (list_at xs n) v (subst (λ i. IsEachOnce (list_at xs i)) same k) out)) | inr other ↦ rw (beside m other) k ];
}
  where
    here : list_at (slice_set xs n (list_at xs n ++ v ∷ [])) n ≡ list_at xs n ++ v ∷ []
    here = get_or-set_same xs n (list_at xs n ++ v ∷ []) [] low

    beside : (m : ℕ) → m ≢ n → list_at (slice_set xs n (list_at xs n ++ v ∷ [])) m ≡ list_at xs m
    beside m other = get_or-set_other xs n m (list_at xs n ++ v ∷ []) [] other

-- ---- what is near

past-or-low : (k n : ℕ) → (k ≤ n) ⊎ (n < k)
past-or-low k n = elim (cases_Bool (nat_lt n k)) [ inl is ↦ inr (grind (arith, nat_tests, is)) | inr off ↦ inl (grind (arith, nat_tests, off)) ]

pub none_near : (p : Instance) (xs : List (List ℕ)) → xs ≡ replicate (node_count p) [] → AreNear p 0 xs
none_near p xs e = record {
  count = rw e (length-replicate (node_count p) []);
  machines = λ n. rw e (rw (empty n) (record { each = λ v h. absurd (omega (arith, h.1)); once = tt }));
  hosted = λ n v low none. absurd (omega (arith, none));
}
  where
    empty : (n : ℕ) → list_at (replicate (node_count p) []) n ≡ []
    empty n = elim (past-or-low (node_count p) n) [ inl past ↦ get_or_past (replicate (node_count p) []) n [] (omega (arith, past, length-replicate {A = List ℕ} (node_count p) [])) | inr low ↦ get_or-replicate (node_count p) n [] [] low ]

machines-put : (p : Instance) (n v : ℕ) (xs ys : List (List ℕ)) → v < machine_count p → IsPut n v xs ys → ((m : ℕ) → AreMachines p (list_at xs m)) → (m : ℕ) → AreMachines p (list_at ys m)
machines-put p n v xs ys low put was m = record {
  each = λ w h. elim (put.only m w h) [ inl old ↦ (was m).each w old | inr same ↦ rw same low ];
  once = put.once m (was m).once;
}

-- what was near still is, with one machine put anywhere
pub near_put : (p : Instance) (n v : ℕ) (xs ys : List (List ℕ)) → v < machine_count p → IsNear p xs → IsPut n v xs ys → IsNear p ys
near_put p n v xs ys low was put = record {
  count = put.count ∙ was.count;
  machines = machines-put p n v xs ys low put was.machines;
  hosted = λ m w l k h. put.kept m w (was.hosted m w l k h);
}

-- the next machine is put near its host
pub next_near : (p : Instance) (v h : ℕ) (xs ys : List (List ℕ)) → v < machine_count p → AreNear p v xs → IsPut h v xs ys → ((n : ℕ) → hosted_in (state_of p v) (one n) ≡ one n h) → AreNear p (v + 1) ys
next_near p v h xs ys low was put host = record {
  count = put.count ∙ was.count;
  machines = machines-put p h v xs ys low put was.machines;
  hosted = λ n w l k on. elim (cases_eq w v) [
    | inl same ↦ rw same (at n l (sym (host n) ∙ subst (λ i. hosted_in (state_of p i) (one n) ≡ true) same on))
    | inr other ↦ put.kept n w (was.hosted n w l (omega (arith, k, other)) on)
  ];
}
  where
    at : (n : ℕ) → n < node_count p → one n h ≡ true → Contains (list_at ys n) v
    at n l on = let same : h ≡ n = grind (arith, nat_tests, on) in subst (λ i. Contains (list_at ys i) v) same (put.there (omega (arith, l, put.count, was.count, same)))

-- or has none
pub next_none : (p : Instance) (v : ℕ) (xs : List (List ℕ)) → AreNear p v xs → ((n : ℕ) → hosted_in (state_of p v) (one n) ≡ false) → AreNear p (v + 1) xs
next_none p v xs was none = record {
  count = was.count;
  machines = was.machines;
  hosted = λ n w l k on. elim (cases_eq w v) [ inl same ↦ absurd (false≢true (sym (none n) ∙ subst (λ i. hosted_in (state_of p i) (one n) ≡ true) same on)) | inr other ↦ was.hosted n w l (omega (arith, k, other)) on ];
}
