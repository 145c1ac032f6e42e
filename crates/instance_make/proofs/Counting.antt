-- How many machines a generated problem has on a set of nodes, and how many of those that leave come there.
use Rattle.base.proofs.Public.{◌≡◌, ◌≢◌, ℕ, zero, suc, ◌+◌, ◌*◌, ◌/◌, ◌%◌, ◌<◌, ◌≤◌, ◌==◌, Bool, true, false, cond, nat_le, refl, ap, ◌∙◌, arith, ⊎_elim, cases_eq, leb-true, Decides-eqb, nat_tests, list_all, range_with_len, each_passes, sum_to-same, sum_to-none, sum_to-add}
use Rattle.instance_make.specs.Prelude.{goes_to, host_of, machine_total, Nodes, one, sum_to}

-- ---- sums by blocks

sum_to-split : (a b : ℕ) (f : ℕ → ℕ) → sum_to (a + b) f ≡ sum_to a f + sum_to b (λ j. f (a + j))
sum_to-split a zero f = at a (a + 0) (omega arith)
  where
    at : (a c : ℕ) → c ≡ a → sum_to c f ≡ sum_to a f + 0
    at a c is = rw is (omega arith)
sum_to-split a (suc b) f = ap (λ n. sum_to n f) next ∙ rw (sum_to-split a b f) (omega arith)
  where
    next : a + suc b ≡ suc (a + b)
    next = omega arith

-- the sum over all machines, by the nodes on which they are
by_nodes : (f : ℕ → ℕ) → sum_to machine_total f
    ≡ sum_to 40 f + sum_to 40 (λ j. f (40 + j)) + sum_to 40 (λ j. f (80 + j)) + sum_to 40 (λ j. f (120 + j)) + sum_to 40 (λ j. f (160 + j))
by_nodes f =
    sum_to-split 160 40 f
    ∙ ap (λ n. n + sum_to 40 (λ j. f (160 + j))) (sum_to-split 120 40 f
    ∙ ap (λ n. n + sum_to 40 (λ j. f (120 + j))) (sum_to-split 80 40 f
    ∙ ap (λ n. n + sum_to 40 (λ j. f (80 + j))) (sum_to-split 40 40 f)))

-- a sum in which one place counts
sum_at : (n k : ℕ) (g : ℕ → ℕ) → k < n → sum_to n (λ j. cond (j == k) (g j) 0) ≡ g k
sum_at zero k g lt = absurd (omega arith)
sum_at (suc n) k g lt = ⊎_elim
    (λ (same : n ≡ k).
    let here : (n == k) ≡ true = (Decides-eqb n k).1 same in
    let before : sum_to n (λ j. cond (j == k) (g j) 0) ≡ 0 = sum_to-none n (λ j. cond (j == k) (g j) 0) (λ j low. let other : (j == k) ≡ false = grind (arith, nat_tests) in rw other refl) in
    let value : g n ≡ g k = ap g same in
    rw (before, here) (omega arith))
    (λ (other : n ≢ k).
    let last : (n == k) ≡ false = grind (arith, nat_tests) in
    rw (sum_at n k g (omega arith), last) (omega arith))
    (cases_eq n k)

-- ---- the machines on a set of nodes

-- 1 for a node of the set
abbrev pub counted : Nodes → ℕ → ℕ
counted set n = cond (set n) 1 0

stay_block : (set : Nodes) (base : ℕ) → base % 40 ≡ 0 → sum_to 40 (λ j. counted set (host_of (base + j))) ≡ sum_to 40 (counted set)
stay_block set base even = sum_to-same 40 (λ j. counted set (host_of (base + j))) (counted set) (λ j low. let place : (base + j) % 40 ≡ j = omega arith in ap (counted set) place)

-- five on each node
pub all_stay : (set : Nodes) → sum_to machine_total (λ v. counted set (host_of v)) ≡ 5 * sum_to 40 (counted set)
all_stay set =
    by_nodes (λ v. counted set (host_of v))
    ∙ rw (stay_block set 40 refl, stay_block set 80 refl, stay_block set 120 refl, stay_block set 160 refl) (first ∙ omega arith)
  where
    first : sum_to 40 (λ j. counted set (host_of j)) + sum_to 40 (counted set) + sum_to 40 (counted set) + sum_to 40 (counted set) + sum_to 40 (counted set)
        ≡ sum_to 40 (counted set) + sum_to 40 (counted set) + sum_to 40 (counted set) + sum_to 40 (counted set) + sum_to 40 (counted set)
    first = ap (λ n. n + sum_to 40 (counted set) + sum_to 40 (counted set) + sum_to 40 (counted set) + sum_to 40 (counted set))
        (sum_to-same 40 (λ j. counted set (host_of j)) (counted set) (λ j low. let place : j % 40 ≡ j = omega arith in ap (counted set) place))

-- ---- those that leave

-- 1 for a machine of the node k that comes to a node of the set
abbrev coming : Nodes → ℕ → ℕ → ℕ
coming set k v = cond (host_of v == k) (counted set (goes_to k v)) 0

move_block : (set : Nodes) (k base i : ℕ) → k < 40 → base ≡ 40 * i → sum_to 40 (λ j. coming set k (base + j)) ≡ counted set ((k + 4 + i) % 40)
move_block set k base i low is =
    sum_to-same 40 (λ j. coming set k (base + j)) (λ j. cond (j == k) (counted set ((k + 4 + i) % 40)) 0)
    (λ j below.
    let place : (base + j) % 40 ≡ j = omega arith in
    let block : (base + j) / 40 ≡ i = omega arith in
    rw (place, block) refl)
    ∙ sum_at 40 k (λ j. counted set ((k + 4 + i) % 40)) low

-- to five nodes
abbrev five : Nodes → ℕ → ℕ
five set k = counted set ((k + 4 + 0) % 40) + counted set ((k + 4 + 1) % 40) + counted set ((k + 4 + 2) % 40) + counted set ((k + 4 + 3) % 40) + counted set ((k + 4 + 4) % 40)

pub all_move : (set : Nodes) (k : ℕ) → k < 40 → sum_to machine_total (coming set k) ≡ five set k
all_move set k low =
    by_nodes (coming set k)
    ∙ rw (move_block set k 40 1 low refl, move_block set k 80 2 low refl, move_block set k 120 3 low refl, move_block set k 160 4 low refl)
    (ap (λ n. n + counted set ((k + 4 + 1) % 40) + counted set ((k + 4 + 2) % 40) + counted set ((k + 4 + 3) % 40) + counted set ((k + 4 + 4) % 40)) first)
  where
    first : sum_to 40 (λ j. coming set k j) ≡ counted set ((k + 4 + 0) % 40)
    first = sum_to-same 40 (λ j. coming set k j) (λ j. coming set k (0 + j)) (λ j below. let same : j ≡ 0 + j = omega arith in ap (coming set k) same) ∙ move_block set k 0 0 low refl

-- ---- one node, and ten

at_most_one : list_all (λ k. list_all (λ n. nat_le (five (one n) k) 1) (range_with_len 0 40)) (range_with_len 0 40) ≡ true
at_most_one = refl

one_each : list_all (λ n. nat_le (sum_to 40 (counted (one n))) 1) (range_with_len 0 40) ≡ true
one_each = refl

-- a machine that stays where it is, and one that comes
pub touches : Nodes → ℕ → ℕ → ℕ
touches set k v = counted set (host_of v) + coming set k v

pub touches_stay : (set : Nodes) (k v : ℕ) → (host_of v == k) ≡ false → touches set k v ≡ counted set (host_of v)
unfolding touches
touches_stay set k v other = rw other (omega arith)

pub touches_leave : (set : Nodes) (k v : ℕ) → (host_of v == k) ≡ true → touches set k v ≡ counted set (host_of v) + counted set (goes_to k v)
unfolding touches
touches_leave set k v here = rw here refl

-- at most six machines hold something on a node
pub touches_one : (k n : ℕ) → k < 40 → n < 40 → sum_to machine_total (touches (one n) k) ≤ 6
unfolding touches
touches_one k n low below =
    let come : five (one n) k ≤ 1 = leb-true _ 1 (each_passes (λ n. nat_le (five (one n) k) 1) 0 40 n (each_passes (λ k. list_all (λ n. nat_le (five (one n) k) 1) (range_with_len 0 40)) 0 40 k at_most_one (omega arith) (omega arith)) (omega arith) (omega arith)) in
    let stay : sum_to 40 (counted (one n)) ≤ 1 = leb-true _ 1 (each_passes (λ n. nat_le (sum_to 40 (counted (one n))) 1) 0 40 n one_each (omega arith) (omega arith)) in
    omega (arith, sum_to-add machine_total (λ v. counted (one n) (host_of v)) (coming (one n) k), all_stay (one n), all_move (one n) k low)

counted_small : (set : Nodes) (n : ℕ) → counted set n ≤ 1
counted_small set n = by (set n)
  where
    by : (b : Bool) → cond b 1 0 ≤ 1
    by true = omega arith
    by false = omega arith

-- where a set has at most ten nodes, at most 55 machines
pub touches_ten : (set : Nodes) (k : ℕ) → k < 40 → sum_to 40 (counted set) ≤ 10 → sum_to machine_total (touches set k) ≤ 55
unfolding touches
touches_ten set k low ten =
    omega (
      arith,
      sum_to-add machine_total (λ v. counted set (host_of v)) (coming set k),
      all_stay set,
      all_move set k low,
      counted_small set ((k + 4 + 0) % 40),
      counted_small set ((k + 4 + 1) % 40),
      counted_small set ((k + 4 + 2) % 40),
      counted_small set ((k + 4 + 3) % 40),
      counted_small set ((k + 4 + 4) % 40),
    )
