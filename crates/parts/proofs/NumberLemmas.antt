-- New numbers and old ones.
use Rattle.std.proofs.Common.{slice_index_or}
use Rattle.base.specs.Sums.{sum_to}
use Rattle.base.proofs.Public.{◌≡◌, inl, inr, ℕ, zero, suc, ◌+◌, ◌<◌, ◌≤◌, Bool, true, false, ◌==◌, List, [], ◌∷◌, ◌++◌, length, refl, sym, ap, subst, ◌∙◌, arith, append-nil, cases_Bool, cases_eq, cases_lt, eq-eqb, filter, filter-append, get_or-append_seam, get_or_append_left, get_or_default, get_or_past, length-append, ne_eqb, range_more, range_with_len, sum_to-same}
use Rattle.parts.specs.Numbers.{new_number, old_number, passing}

-- ---- one number more

pub passing_more : (test : ℕ → Bool) (n : ℕ) → passing test (suc n) ≡ passing test n ++ filter test (n ∷ [])
passing_more test n =
    let one_more : suc n ≡ n + 1 = omega arith in
    ap (passing test) one_more ∙ ap (filter test) (range_more n) ∙ filter-append test (range_with_len 0 n) (n ∷ [])

pub last_passes : (test : ℕ → Bool) (n : ℕ) → test n ≡ true → passing test (suc n) ≡ passing test n ++ n ∷ []
last_passes test n pass = passing_more test n ∙ rw pass refl

pub last_fails : (test : ℕ → Bool) (n : ℕ) → test n ≡ false → passing test (suc n) ≡ passing test n
last_fails test n fail = passing_more test n ∙ rw fail (append-nil (passing test n))

pub new_passes : (test : ℕ → Bool) (n : ℕ) → test n ≡ true → new_number test (suc n) ≡ new_number test n + 1
new_passes test n pass = rw pass refl

pub new_fails : (test : ℕ → Bool) (n : ℕ) → test n ≡ false → new_number test (suc n) ≡ new_number test n
new_fails test n fail = rw fail (omega arith)

-- there are as many as pass before the bound
pub length-passing : (test : ℕ → Bool) (n : ℕ) → length (passing test n) ≡ new_number test n
length-passing test zero = refl
length-passing test (suc n) =
    elim (cases_Bool (test n)) [
      | inl pass ↦ ap length (last_passes test n pass) ∙ length-append (passing test n) (n ∷ []) ∙ ap (λ (m : ℕ). m + 1) (length-passing test n) ∙ sym (new_passes test n pass)
      | inr fail ↦ ap length (last_fails test n fail) ∙ length-passing test n ∙ sym (new_fails test n fail)
    ]

-- ---- where a number stands

-- x stands at place k
record IsAt (xs : List ℕ) (k x : ℕ) : Type 0 where
  within : k < length xs
  there : (d : ℕ) → slice_index_or xs k d ≡ x

at_longer : (xs ys : List ℕ) (k x : ℕ) → IsAt xs k x → IsAt (xs ++ ys) k x
at_longer xs ys k x h = record {
  within = omega (arith, h.within, length-append xs ys);
  there = λ d. get_or_append_left xs ys d k h.within ∙ h.there d;
}

at_last : (xs : List ℕ) (k x : ℕ) → length xs ≡ k → IsAt (xs ++ x ∷ []) k x
at_last xs k x long = record {
  within = omega (arith, long, length-append xs (x ∷ []));
  there = λ d. ap (λ (i : ℕ). slice_index_or (xs ++ x ∷ []) i d) (sym long) ∙ get_or-append_seam xs x [] d;
}

-- one that passes stands at its new number
placed : (test : ℕ → Bool) (n x : ℕ) → x < n → test x ≡ true → IsAt (passing test n) (new_number test x) x
placed test zero x l pass = absurd (omega arith)
placed test (suc n) x l pass =
    elim (cases_eq x n) [
      | inl same ↦
          let passes : test n ≡ true = ap test (sym same) ∙ pass in
          subst (λ (y : ℕ). IsAt (passing test (suc n)) (new_number test y) y) (sym same) (subst (λ (l : List ℕ). IsAt l (new_number test n) n) (sym (last_passes test n passes)) (at_last (passing test n) (new_number test n) n (length-passing test n)))
      | inr other ↦ subst (λ (l : List ℕ). IsAt l (new_number test x) x) (sym (passing_more test n)) (at_longer (passing test n) (filter test (n ∷ [])) (new_number test x) x (placed test n x (omega (arith, l, other)) pass))
    ]

-- what stands at a place is below the bound, passes, and has that place as its new number
record Origin (test : ℕ → Bool) (n k : ℕ) (xs : List ℕ) : Type 0 where
  x : ℕ
  below : x < n
  passes : test x ≡ true
  new : new_number test x ≡ k
  at : IsAt xs k x

origin_more : (test : ℕ → Bool) (n k : ℕ) → Origin test n k (passing test n) → Origin test (suc n) k (passing test (suc n))
origin_more test n k o = record {
  x = o.x;
  below = omega (arith, o.below);
  passes = o.passes;
  new = o.new;
  at = subst (λ (l : List ℕ). IsAt l k o.x) (sym (passing_more test n)) (at_longer (passing test n) (filter test (n ∷ [])) k o.x o.at);
}

origin : (test : ℕ → Bool) (n k : ℕ) → k < length (passing test n) → Origin test n k (passing test n)
origin test zero k l = absurd (omega arith)
origin test (suc n) k l =
    elim (cases_lt k (length (passing test n))) [
      | inl early ↦ origin_more test n k (origin test n k early)
      | inr late ↦ elim (cases_Bool (test n)) [
        | inr fail ↦ absurd (omega (arith, l, late, ap length (last_fails test n fail)))
        | inl pass ↦
            let last : length (passing test n) ≡ k = omega (arith, l, late, ap length (last_passes test n pass), length-append (passing test n) (n ∷ [])) in
            record {
              x = n;
              below = omega arith;
              passes = pass;
              new = sym (length-passing test n) ∙ last;
              at = subst (λ (l : List ℕ). IsAt l k n) (sym (last_passes test n pass)) (at_last (passing test n) k n last);
            }
      ]
    ]

-- ---- new numbers and old ones

module _ (test : ℕ → Bool) (n : ℕ) where
  pub new_in : (x : ℕ) → x < n → test x ≡ true → new_number test x < length (passing test n)
  new_in x l pass = (placed test n x l pass).within

  pub old_new : (x : ℕ) → x < n → test x ≡ true → old_number test n (new_number test x) ≡ x
  old_new x l pass = (placed test n x l pass).there (n + new_number test x)

  old_is : (k : ℕ) (l : k < length (passing test n)) → old_number test n k ≡ (origin test n k l).x
  old_is k l = (origin test n k l).at.there (n + k)

  pub old_in : (k : ℕ) → k < length (passing test n) → old_number test n k < n
  old_in k l = omega (arith, old_is k l, (origin test n k l).below)

  pub old_passes : (k : ℕ) → k < length (passing test n) → test (old_number test n k) ≡ true
  old_passes k l = ap test (old_is k l) ∙ (origin test n k l).passes

  pub new_old : (k : ℕ) → k < length (passing test n) → new_number test (old_number test n k) ≡ k
  new_old k l = ap (new_number test) (old_is k l) ∙ (origin test n k l).new

  pub old_past : (k : ℕ) → length (passing test n) ≤ k → old_number test n k ≡ n + k
  old_past k l = get_or_past (passing test n) k (n + k) l

  pub same_new : (a b : ℕ) → old_number test n a ≡ old_number test n b → a ≡ b
  same_new a b e =
      elim (cases_lt a (length (passing test n))) [
        | inl in_a ↦ elim (cases_lt b (length (passing test n))) [
          | inl in_b ↦ sym (new_old a in_a) ∙ ap (new_number test) e ∙ new_old b in_b
          | inr past_b ↦ absurd (omega (arith, e, old_in a in_a, old_past b past_b))
        ]
        | inr past_a ↦ elim (cases_lt b (length (passing test n))) [
          | inl in_b ↦ absurd (omega (arith, e, old_in b in_b, old_past a past_a))
          | inr past_b ↦ omega (arith, e, old_past a past_a, old_past b past_b)
        ]
      ]

  -- different new numbers have different old ones
  pub old_apart : (a b : ℕ) → (old_number test n a == old_number test n b) ≡ (a == b)
  old_apart a b =
      elim (cases_eq a b) [
        | inl same ↦ eq-eqb _ _ (ap (old_number test n) same) ∙ sym (eq-eqb a b same)
        | inr other ↦ ne_eqb _ _ (λ e. other (same_new a b e)) ∙ sym (ne_eqb a b other)
      ]

-- ---- sums

places_more : (f : ℕ → ℕ) (d e : ℕ → ℕ) (xs : List ℕ) (x m : ℕ) → length xs ≡ m → sum_to (suc m) (λ k. f (slice_index_or (xs ++ x ∷ []) k (d k))) ≡ sum_to m (λ k. f (slice_index_or xs k (e k))) + f x
places_more f d e xs x m long =
    let before : sum_to m (λ k. f (slice_index_or (xs ++ x ∷ []) k (d k))) ≡ sum_to m (λ k. f (slice_index_or xs k (e k))) =
    sum_to-same m _ _ (λ k l. ap f (get_or_append_left xs (x ∷ []) (d k) k (omega (arith, l, long)) ∙ get_or_default xs k (d k) (e k) (omega (arith, l, long)))) in
    let last : f (slice_index_or (xs ++ x ∷ []) m (d m)) ≡ f x = ap f ((at_last xs m x long).there (d m)) in
    omega (arith, before, last)

-- a sum of terms that are 0 at what fails is one over what passes
pub sum_to-passing : (test : ℕ → Bool) (f : ℕ → ℕ) (d : ℕ → ℕ) (n : ℕ) → ((k : ℕ) → k < n → test k ≡ false → f k ≡ 0) → sum_to n f ≡ sum_to (length (passing test n)) (λ k. f (slice_index_or (passing test n) k (d k)))
sum_to-passing test f d zero h = refl
sum_to-passing test f d (suc n) h =
    let before = sum_to-passing test f d n (λ k l e. h k (omega arith) e) in
    let over : List ℕ → ℕ = λ (l : List ℕ). sum_to (length l) (λ k. f (slice_index_or l k (d k))) in
    elim (cases_Bool (test n)) [
      | inl pass ↦
          let long : length (passing test n ++ n ∷ []) ≡ suc (length (passing test n)) = omega (arith, length-append (passing test n) (n ∷ [])) in
          let longer : over (passing test n ++ n ∷ []) ≡ over (passing test n) + f n =
          ap (λ (m : ℕ). sum_to m (λ k. f (slice_index_or (passing test n ++ n ∷ []) k (d k)))) long ∙ places_more f d d (passing test n) n (length (passing test n)) refl in
          ap (λ (m : ℕ). m + f n) before ∙ sym longer ∙ ap over (sym (last_passes test n pass))
      | inr fail ↦
          let none : f n ≡ 0 = h n (omega arith) fail in
          let same : sum_to n f + f n ≡ sum_to n f = omega (arith, none) in
          same ∙ before ∙ ap over (sym (last_fails test n fail))
    ]

-- ---- new numbers grow

pub new_grows : (test : ℕ → Bool) (n w : ℕ) → n ≤ w → new_number test n ≤ new_number test w
new_grows test n zero l = let none : n ≡ 0 = omega arith in rw none (omega arith)
new_grows test n (suc w) l =
    elim (cases_eq n (suc w)) [
      | inl same ↦ rw same (omega arith)
      | inr other ↦ let before = new_grows test n w (omega (arith, l, other)) in let more : new_number test w ≤ new_number test (suc w) = omega arith in omega (arith, before, more)
    ]

pub new-le : (test : ℕ → Bool) (x : ℕ) → new_number test x ≤ x
new-le test zero = omega arith
new-le test (suc x) =
    elim (cases_Bool (test x)) [
      | inl pass ↦ omega (arith, new_passes test x pass, new-le test x)
      | inr fail ↦ omega (arith, new_fails test x fail, new-le test x)
    ]

-- and so do old ones
pub old_grows : (test : ℕ → Bool) (n a b : ℕ) → a < b → b < length (passing test n) → old_number test n a < old_number test n b
old_grows test n a b less l =
    let la : a < length (passing test n) = omega (arith, less, l) in
    elim (cases_lt (old_number test n a) (old_number test n b)) [
      | inl low ↦ low
      | inr high ↦ absurd (omega (arith, less, new_grows test (old_number test n b) (old_number test n a) high, new_old test n a la, new_old test n b l))
    ]

-- a number that passes has a new number only where it is the old one
pub is_new : (test : ℕ → Bool) (n k w : ℕ) → k < length (passing test n) → test w ≡ true → (new_number test w == k) ≡ (w == old_number test n k)
is_new test n k w l pass =
    elim (cases_eq w (old_number test n k)) [
      | inl same ↦ eq-eqb _ _ (ap (new_number test) same ∙ new_old test n k l) ∙ sym (eq-eqb _ _ same)
      | inr other ↦ ne_eqb _ _ (λ e. other (here e)) ∙ sym (ne_eqb _ _ other)
    ]
  where
    here : new_number test w ≡ k → w ≡ old_number test n k
    here e =
        elim (cases_lt w n) [
          | inl below ↦ sym (old_new test n w below pass) ∙ ap (old_number test n) e
          | inr past ↦ absurd (omega (arith, new_grows test n w past, length-passing test n, e, l))
        ]
