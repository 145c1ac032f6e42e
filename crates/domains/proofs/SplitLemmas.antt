-- What one element's set adds to products and sums over all.
use Rattle.base.proofs.Public.{◌≡◌, ◌≢◌, ◌⊎◌, inl, inr, ℕ, zero, suc, ◌+◌, ◌*◌, ◌<◌, ◌≤◌, Bool, true, false, cond, not, List, [], ◌∷◌, length, refl, sym, ap, ◌∙◌, arith, filter, Contains, mul-add, add-mul, mul-le-mul_left, mul-le-mul_right, le_trans, Decides-eqb, nat_tests, length-filter_both, sum_to-le, sum_to-change, product_to-split}
use Rattle.domains.specs.Prelude.{Choice, choice_count, Element, IsOneOf, keeping, machine_choices, Node, node_choices, product_to, same_element, Sets, size, Vm}

-- ---- membership, step by step

pub contains_cases : (x : Choice) (xs : List Choice) (c : Choice) → Contains (x ∷ xs) c → (x ≡ c) ⊎ Contains xs c
contains_cases x xs c (zero, lt, e) = inl e
contains_cases x xs c (suc k, lt, e) = inr (k, omega arith, e)

pub contains_here : (x : Choice) (xs : List Choice) → Contains (x ∷ xs) x
contains_here x xs = (0, omega arith, refl)

pub contains_later : (x : Choice) (xs : List Choice) (c : Choice) → Contains xs c → Contains (x ∷ xs) c
contains_later x xs c (k, lt, e) = (suc k, omega arith, e)

pub contains_none : (c : Choice) → Contains [] c → ⊥
contains_none c (k, lt, e) = absurd (omega arith)

pub contains_one : (c d : Choice) → Contains (c ∷ []) d → d ≡ c
contains_one c d (zero, h, e) = sym e
contains_one c d (suc k, h, e) = absurd (omega arith)

-- a filter has what passes it, and nothing else
pub contains_filter : (test : Choice → Bool) (cs : List Choice) (c : Choice) → Contains cs c → test c ≡ true → Contains (filter test cs) c
contains_filter test [] c h t = absurd (contains_none c h)
contains_filter test (x ∷ xs) c h t = by (test x) refl (contains_cases x xs c h) (λ l. contains_filter test xs c l t)
  where
    by : (b : Bool) → test x ≡ b → (x ≡ c) ⊎ Contains xs c → (Contains xs c → Contains (filter test xs) c) → Contains (cond b (x ∷ filter test xs) (filter test xs)) c
    by true e (inl same) rest = rw (← same) (contains_here x (filter test xs))
    by true e (inr later) rest = contains_later x (filter test xs) c (rest later)
    by false e (inl same) rest = let f : test c ≡ false = rw (← same) e in cc
    by false e (inr later) rest = rest later

pub filter_contains : (test : Choice → Bool) (cs : List Choice) (c : Choice) → Contains (filter test cs) c → Contains cs c × (test c ≡ true)
filter_contains test [] c h = absurd (contains_none c h)
filter_contains test (x ∷ xs) c h = by (test x) refl h (λ l. filter_contains test xs c l)
  where
    by : (b : Bool) → test x ≡ b → Contains (cond b (x ∷ filter test xs) (filter test xs)) c → (Contains (filter test xs) c → Contains xs c × (test c ≡ true)) → Contains (x ∷ xs) c × (test c ≡ true)
    by true e k rest = two (contains_cases x (filter test xs) c k)
      where
        two : (x ≡ c) ⊎ Contains (filter test xs) c → Contains (x ∷ xs) c × (test c ≡ true)
        two (inl same) = rw (← same) (contains_here x xs, e)
        two (inr later) = let r = rest later in (contains_later x xs c r.0, r.1)
    by false e k rest = let r = rest k in (contains_later x xs c r.0, r.1)

-- ---- how many a filter keeps

pub length-filter_le : (test : Choice → Bool) (cs : List Choice) → length (filter test cs) ≤ length cs
length-filter_le test cs = omega (arith, length-filter_both test (λ c. not (test c)) (λ c. refl) cs)

-- what does not pass is missing
pub length-filter_lt : (test : Choice → Bool) (cs : List Choice) (c : Choice) → Contains cs c → test c ≡ false → length (filter test cs) < length cs
length-filter_lt test cs c h f =
    let some : 0 < length (filter (λ d. not (test d)) cs) = by (filter (λ d. not (test d)) cs) (contains_filter (λ d. not (test d)) cs c h (ap not f)) in
    omega (arith, length-filter_both test (λ d. not (test d)) (λ d. refl) cs)
  where
    by : (ds : List Choice) → Contains ds c → 0 < length ds
    by ds (k, lt, e) = omega arith

-- ---- one element among all

elsewhere : (x e : Element) (test : Choice → Bool) (s : Sets) → same_element e x ≡ false → length (keeping x test s e) ≡ length (s e)
elsewhere x e test s h = rw h refl

here : (x e : Element) (test : Choice → Bool) (s : Sets) → same_element e x ≡ true → length (keeping x test s e) ≡ length (filter test (s e))
here x e test s h = rw h refl

pub keeping-le : (x e : Element) (test : Choice → Bool) (s : Sets) → length (keeping x test s e) ≤ length (s e)
keeping-le x e test s = by (same_element e x)
  where
    by : (b : Bool) → length (cond b (filter test (s e)) (s e)) ≤ length (s e)
    by true = length-filter_le test (s e)
    by false = omega arith

both : (x e : Element) (f g : Choice → Bool) (s : Sets) → ((c : Choice) → g c ≡ not (f c)) → same_element e x ≡ true → length (keeping x f s e) + length (keeping x g s e) ≡ length (s e)
both x e f g s other h = rw h (length-filter_both f g other (s e))

-- where a test and its opposite split an element's choices, the sizes add up
pub size-split : (machines nodes : ℕ) (s : Sets) (x : Element) (f g : Choice → Bool) → ((c : Choice) → g c ≡ not (f c)) → IsOneOf machines nodes x → size machines nodes (keeping x f s) + size machines nodes (keeping x g s) ≡ size machines nodes s
size-split machines nodes s (Vm v) f g other h =
    let split = product_to-split machines (machine_choices (keeping (Vm v) f s)) (machine_choices (keeping (Vm v) g s)) (machine_choices s) v.0 h
    (λ k ne. elsewhere (Vm v) (Vm (record { 0 = k })) f s (grind (arith, nat_tests)))
    (λ k ne. elsewhere (Vm v) (Vm (record { 0 = k })) g s (grind (arith, nat_tests)))
    (both (Vm v) (Vm (record { 0 = v.0 })) f g s other ((Decides-eqb v.0 v.0).1 refl)) in
    sym (add-mul (product_to machines (machine_choices (keeping (Vm v) f s))) (product_to machines (machine_choices (keeping (Vm v) g s))) (product_to nodes (node_choices s)))
    ∙ ap (λ m. m * product_to nodes (node_choices s)) split
size-split machines nodes s (Node n) f g other h =
    let split = product_to-split nodes (node_choices (keeping (Node n) f s)) (node_choices (keeping (Node n) g s)) (node_choices s) n.0 h
    (λ k ne. elsewhere (Node n) (Node (record { 0 = k })) f s (grind (arith, nat_tests)))
    (λ k ne. elsewhere (Node n) (Node (record { 0 = k })) g s (grind (arith, nat_tests)))
    (both (Node n) (Node (record { 0 = n.0 })) f g s other ((Decides-eqb n.0 n.0).1 refl)) in
    sym (mul-add (product_to machines (machine_choices s)) (product_to nodes (node_choices (keeping (Node n) f s))) (product_to nodes (node_choices (keeping (Node n) g s))))
    ∙ ap (λ m. product_to machines (machine_choices s) * m) split

mul_mono : (a b c d : ℕ) → a ≤ c → b ≤ d → a * b ≤ c * d
mul_mono a b c d l u = le_trans (mul-le-mul_left a u) (mul-le-mul_right d l)

-- a product of terms that are no greater is no greater
product_to-le : (n : ℕ) (f g : ℕ → ℕ) → ((k : ℕ) → k < n → f k ≤ g k) → product_to n f ≤ product_to n g
product_to-le zero f g h = omega arith
product_to-le (suc n) f g h = mul_mono (product_to n f) (f n) (product_to n g) (g n) (product_to-le n f g (λ k l. h k (omega arith))) (h n (omega arith))

pub size-le : (machines nodes : ℕ) (s : Sets) (x : Element) (test : Choice → Bool) → size machines nodes (keeping x test s) ≤ size machines nodes s
size-le machines nodes s x test =
    mul_mono (product_to machines (machine_choices (keeping x test s))) (product_to nodes (node_choices (keeping x test s))) (product_to machines (machine_choices s)) (product_to nodes (node_choices s))
    (product_to-le machines (machine_choices (keeping x test s)) (machine_choices s) (λ k l. keeping-le x (Vm (record { 0 = k })) test s))
    (product_to-le nodes (node_choices (keeping x test s)) (node_choices s) (λ k l. keeping-le x (Node (record { 0 = k })) test s))

-- a product of terms that are at least 1 is at least 1, and at least 2 unless all are 1
product_to-positive : (n : ℕ) (f : ℕ → ℕ) → ((k : ℕ) → k < n → 1 ≤ f k) → 1 ≤ product_to n f
product_to-positive zero f h = omega arith
product_to-positive (suc n) f h = mul_mono 1 1 (product_to n f) (f n) (product_to-positive n f (λ k l. h k (omega arith))) (h n (omega arith))

product_to-two : (n : ℕ) (f : ℕ → ℕ) → ((k : ℕ) → k < n → 1 ≤ f k) → ((k : ℕ) → k < n → f k ≡ 1) ⊎ (2 ≤ product_to n f)
product_to-two zero f h = inl (λ k l. absurd (omega arith))
product_to-two (suc n) f h =
    by (product_to-two n f (λ k l. h k (omega arith))) (grind arith)
  where
    last : 1 ≤ f n
    last = h n (omega arith)

    by : ((k : ℕ) → k < n → f k ≡ 1) ⊎ (2 ≤ product_to n f) → (f n ≡ 1) ⊎ (2 ≤ f n) → ((k : ℕ) → k < suc n → f k ≡ 1) ⊎ (2 ≤ product_to n f * f n)
    by (inl all) (inl one) = inl (λ k l. at k (grind arith) one all)
      where
        at : (k : ℕ) → (k ≡ n) ⊎ (k < n) → f n ≡ 1 → ((j : ℕ) → j < n → f j ≡ 1) → f k ≡ 1
        at k (inl same) one all = rw same one
        at k (inr before) one all = all k before
    by (inl all) (inr two) = inr (mul_mono 1 2 (product_to n f) (f n) (product_to-positive n f (λ k l. h k (omega arith))) two)
    by (inr two) one = inr (mul_mono 2 1 (product_to n f) (f n) two last)

-- an element's set that is not empty has a choice
some-choice : (cs : List Choice) → cs ≢ [] → 1 ≤ length cs
some-choice [] ne = absurd (ne refl)
some-choice (c ∷ cs) ne = omega arith

module _ (machines nodes : ℕ) (s : Sets) (some : (x : Element) → IsOneOf machines nodes x → s x ≢ []) where
  machines-some : (k : ℕ) → k < machines → 1 ≤ machine_choices s k
  machines-some k l = some-choice (s (Vm (record { 0 = k }))) (some (Vm (record { 0 = k })) l)

  nodes-some : (k : ℕ) → k < nodes → 1 ≤ node_choices s k
  nodes-some k l = some-choice (s (Node (record { 0 = k }))) (some (Node (record { 0 = k })) l)

  pub size-positive : 1 ≤ size machines nodes s
  size-positive = mul_mono 1 1 (product_to machines (machine_choices s)) (product_to nodes (node_choices s)) (product_to-positive machines (machine_choices s) machines-some) (product_to-positive nodes (node_choices s) nodes-some)

  pub size-two : ((x : Element) → IsOneOf machines nodes x → length (s x) ≡ 1) ⊎ (2 ≤ size machines nodes s)
  size-two = by (product_to-two machines (machine_choices s) machines-some) (product_to-two nodes (node_choices s) nodes-some)
    where
      by : ((k : ℕ) → k < machines → machine_choices s k ≡ 1) ⊎ (2 ≤ product_to machines (machine_choices s)) → ((k : ℕ) → k < nodes → node_choices s k ≡ 1) ⊎ (2 ≤ product_to nodes (node_choices s)) → ((x : Element) → IsOneOf machines nodes x → length (s x) ≡ 1) ⊎ (2 ≤ size machines nodes s)
      by (inl ms) (inl ns) = inl each
        where
          each : (x : Element) → IsOneOf machines nodes x → length (s x) ≡ 1
          each (Vm v) l = ms v.0 l
          each (Node n) l = ns n.0 l
      by (inr two) ns = inr (mul_mono 2 1 (product_to machines (machine_choices s)) (product_to nodes (node_choices s)) two (product_to-positive nodes (node_choices s) nodes-some))
      by (inl ms) (inr two) = inr (mul_mono 1 2 (product_to machines (machine_choices s)) (product_to nodes (node_choices s)) (product_to-positive machines (machine_choices s) machines-some) two)

-- ---- how many choices are left

pub count-le : (machines nodes : ℕ) (s : Sets) (x : Element) (test : Choice → Bool) → choice_count machines nodes (keeping x test s) ≤ choice_count machines nodes s
count-le machines nodes s x test =
    omega (
      arith,
      sum_to-le machines (machine_choices (keeping x test s)) (machine_choices s) (λ k l. keeping-le x (Vm (record { 0 = k })) test s),
      sum_to-le nodes (node_choices (keeping x test s)) (node_choices s) (λ k l. keeping-le x (Node (record { 0 = k })) test s),
    )

pub count-lt : (machines nodes : ℕ) (s : Sets) (x : Element) (test : Choice → Bool) (c : Choice) → IsOneOf machines nodes x → Contains (s x) c → test c ≡ false → choice_count machines nodes (keeping x test s) < choice_count machines nodes s
count-lt machines nodes s (Vm v) test c l h f =
    let change = sum_to-change machines (machine_choices (keeping (Vm v) test s)) (machine_choices s) v.0 l (λ k ne. elsewhere (Vm v) (Vm (record { 0 = k })) test s (grind (arith, nat_tests))) in
    let at = here (Vm v) (Vm (record { 0 = v.0 })) test s ((Decides-eqb v.0 v.0).1 refl) in
    let less = length-filter_lt test (s (Vm v)) c h f in
    omega (arith, change, at, less)
count-lt machines nodes s (Node n) test c l h f =
    let change = sum_to-change nodes (node_choices (keeping (Node n) test s)) (node_choices s) n.0 l (λ k ne. elsewhere (Node n) (Node (record { 0 = k })) test s (grind (arith, nat_tests))) in
    let at = here (Node n) (Node (record { 0 = n.0 })) test s ((Decides-eqb n.0 n.0).1 refl) in
    let less = length-filter_lt test (s (Node n)) c h f in
    omega (arith, change, at, less)
