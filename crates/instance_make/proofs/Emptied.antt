-- The plan that empties the node of a generated problem is legal, and what the machines hold under it.
use Rattle.base.proofs.Public.{◌≡◌, ◌≢◌, ℕ, zero, suc, ◌+◌, ◌*◌, ◌/◌, ◌<◌, ◌≤◌, ◌==◌, ◌&&◌, Bool, true, false, cond, not, List, [], ◌∷◌, length, max, nat_le, nat_lt, Some, None, refl, ap, ◌∙◌, arith, ⊎_elim, cases_eq, lt-ltb, le-leb, eqb-true, Decides-eqb, nat_tests, fold, range_with_len}
use Rattle.instance_make.specs.Prelude.{action_duration, Always, At, BeforeEnd, Demand, duration_of, emptied, emptying, end_of, FromStart, generated, goes_to, held_by, host_of, is_legal, IsPlan, kind_duration, kind_of, last_end, leaves, machine_total, may_idle, mem_of, Migrate, node, Node as TheNode, node_total, Nodes, NodeShutdown, Nowhere, Offline as ToOffline, slices_by, slices_of, Stage, To, Use, Vm, vm, wanted_node, Weight, weight_of}
use Rattle.instance_make.proofs.Faultless.{mem_small}
use Rattle.instance_make.proofs.Problem.{state_at, use_at, wanted_at, raised_at, node_count_at, machine_count_at, online_at, own_at, node_own_at, migration_at, shutdown_at, horizon_at, emptied_wish, other_wish}

pub emptied_low : (seed : ℕ) → emptied seed < node_total
emptied_low seed = omega arith

-- the machines of the node go elsewhere
pub goes_low : (k v : ℕ) → goes_to k v < node_total
goes_low k v = omega arith

pub goes_away : (k v : ℕ) → k < node_total → v < machine_total → goes_to k v ≡ k → ⊥
goes_away k v low lt same = omega arith

-- ---- kinds and durations

module _ (seed v : ℕ) (lt : v < machine_total) (here : (host_of v == emptied seed) ≡ true) where
  pub migrates : kind_of (generated seed) (vm v) (At (record { 0 = goes_to (emptied seed) v })) ≡ Some Migrate
  unfolding kind_of
  migrates =
      let place : nat_lt (goes_to (emptied seed) v) (length (generated seed).nodes) ≡ true = lt-ltb _ _ (omega (arith, node_count_at seed, goes_low (emptied seed) v)) in
      let host : host_of v ≡ emptied seed = eqb-true (host_of v) (emptied seed) here in
      let apart : (goes_to (emptied seed) v == host_of v) ≡ false = differ (goes_to (emptied seed) v) (host_of v) (λ same. goes_away (emptied seed) v (emptied_low seed) lt (same ∙ host)) in
      rw (place, state_at seed v lt, wanted_at seed v, raised_at seed v, apart) refl
    where
      differ : (a b : ℕ) → (a ≡ b → ⊥) → (a == b) ≡ false
      differ a b other = grind (arith, nat_tests)

migration_lasts : (seed v : ℕ) → v < machine_total → duration_of (generated seed) (vm v) Migrate ≡ 2 + 1 * mem_of seed v
unfolding duration_of
migration_lasts seed v lt = rw (own_at seed v lt, migration_at seed, use_at seed v 1 lt) refl

shutdown_lasts : (seed n : ℕ) → n < node_total → duration_of (generated seed) (node n) NodeShutdown ≡ 2
unfolding duration_of
shutdown_lasts seed n lt = rw (node_own_at seed n lt, shutdown_at seed) refl

module _ (seed v : ℕ) (lt : v < machine_total) (here : (host_of v == emptied seed) ≡ true) where
  pub leaving_lasts : action_duration (generated seed) (vm v) (At (record { 0 = goes_to (emptied seed) v })) ≡ 2 + 1 * mem_of seed v
  unfolding action_duration kind_duration
  leaving_lasts = rw (migrates seed v lt here) (migration_lasts seed v lt)

  pub ends_at : end_of (generated seed) (vm v) (leaves (emptied seed) v) ≡ 0 + (2 + 1 * mem_of seed v)
  unfolding end_of
  ends_at = ap (λ n. 0 + n) leaving_lasts

  pub ends_early : end_of (generated seed) (vm v) (leaves (emptied seed) v) ≤ 10
  ends_early = omega (arith, ends_at, mem_small seed v)

-- ---- the end of the last migration

fold_above : (e : ℕ → ℕ) (xs : List ℕ) (m : ℕ) → m ≤ fold (λ most i. max most (e i)) m xs
fold_above e [] m = omega arith
fold_above e (x ∷ xs) m = omega (arith, fold_above e xs (max m (e x)))

fold_at : (e : ℕ → ℕ) (n a m i : ℕ) → a ≤ i → i < a + n → e i ≤ fold (λ most j. max most (e j)) m (range_with_len a n)
fold_at e zero a m i low high = absurd (omega arith)
fold_at e (suc n) a m i low high = ⊎_elim
    (λ (same : i ≡ a). let value : e i ≡ e a = ap e same in omega (arith, value, fold_above e (range_with_len (a + 1) n) (max m (e a))))
    (λ (other : i ≢ a). fold_at e n (a + 1) (max m (e a)) i (omega arith) (omega arith))
    (cases_eq i a)

fold_below : (e : ℕ → ℕ) (bound n a m : ℕ) → ((i : ℕ) → a ≤ i → i < a + n → e i ≤ bound) → m ≤ bound → fold (λ most j. max most (e j)) m (range_with_len a n) ≤ bound
fold_below e bound zero a m each le = le
fold_below e bound (suc n) a m each le = fold_below e bound n (a + 1) (max m (e a)) (λ i low high. each i (omega arith) (omega arith)) (omega (arith, each a (omega arith) (omega arith)))

-- the end of the migration of a number
abbrev end_by : ℕ → ℕ → ℕ
end_by seed i = end_of (generated seed) (vm (emptied seed + node_total * i)) (leaves (emptied seed) (emptied seed + node_total * i))

is_there : (k v i : ℕ) → k < node_total → v ≡ k + node_total * i → (host_of v == k) ≡ true
is_there k v i low is = let same : host_of v ≡ k = omega arith in (Decides-eqb (host_of v) k).1 same

pub last_low : (seed : ℕ) → last_end seed ≤ 10
last_low seed = fold_below (end_by seed) 10 5 0 0
    (λ i low high. ends_early seed (emptied seed + node_total * i) (omega (arith, emptied_low seed)) (is_there (emptied seed) (emptied seed + node_total * i) i (emptied_low seed) refl))
    (omega arith)

pub by_last : (seed v : ℕ) → v < machine_total → (host_of v == emptied seed) ≡ true → end_of (generated seed) (vm v) (leaves (emptied seed) v) ≤ last_end seed
by_last seed v lt here =
    let host : host_of v ≡ emptied seed = eqb-true (host_of v) (emptied seed) here in
    let place : emptied seed + node_total * (v / 40) ≡ v = omega arith in
    rw place at (fold_at (end_by seed) 5 0 0 (v / 40) (omega arith) (omega arith))

-- ---- legal choices

pub by_test : {G : Type 0} (b : Bool) → (b ≡ true → G) → (b ≡ false → G) → G
by_test true pass fail = pass refl
by_test false pass fail = fail refl

machine_legal : (seed v : ℕ) → v < machine_total → is_legal (generated seed) (vm v) (emptying seed (vm v)) ≡ true
unfolding emptying is_legal may_idle
machine_legal seed v lt = by_test (host_of v == emptied seed)
    (λ here.
    let early : nat_le (end_of (generated seed) (vm v) (leaves (emptied seed) v)) (generated seed).horizon ≡ true =
    le-leb _ _ (omega (arith, ends_early seed v lt here, horizon_at seed)) in
    rw here (rw (migrates seed v lt here, early) refl))
    (λ other. rw other (rw (state_at seed v lt, wanted_at seed v, raised_at seed v) refl))

shuts_down : (seed n : ℕ) → n < node_total → n ≡ emptied seed → kind_of (generated seed) (node n) Nowhere ≡ Some NodeShutdown
unfolding kind_of
shuts_down seed n lt same =
    let wish : wanted_node (generated seed) n ≡ To ToOffline = ap (wanted_node (generated seed)) same ∙ emptied_wish seed in
    rw (online_at seed n lt, wish) refl

node_legal : (seed n : ℕ) → n < node_total → is_legal (generated seed) (node n) (emptying seed (node n)) ≡ true
unfolding emptying is_legal may_idle end_of action_duration kind_duration
node_legal seed n lt = by_test (n == emptied seed)
    (λ here.
    let same : n ≡ emptied seed = eqb-true n (emptied seed) here in
    let early : nat_le (last_end seed + 2) (generated seed).horizon ≡ true = le-leb _ _ (omega (arith, last_low seed, horizon_at seed)) in
    rw here (rw (shuts_down seed n lt same) (rw (shutdown_lasts seed n lt, early) refl)))
    (λ other. rw other (rw (online_at seed n lt, other_wish seed n lt other) refl))

pub legal : (seed : ℕ) → IsPlan (generated seed) (emptying seed)
legal seed (Vm v) listed = machine_legal seed v.0 (omega (arith, listed, machine_count_at seed))
legal seed (TheNode n) listed = node_legal seed n.0 (omega (arith, listed, node_count_at seed))

-- ---- what the machines hold

slices_stay : (seed v : ℕ) → v < machine_total → (host_of v == emptied seed) ≡ false
    → slices_of (generated seed) v (emptying seed (vm v)) ≡ record { source = Some (record { node = record { 0 = host_of v }; span = Always; what = Use }); target = None; image = None }
unfolding emptying slices_of
slices_stay seed v lt other = rw other (rw (state_at seed v lt) refl)

slices_leave : (seed v : ℕ) → v < machine_total → (host_of v == emptied seed) ≡ true
    → slices_of (generated seed) v (emptying seed (vm v)) ≡ record {
      source = Some (record { node = record { 0 = host_of v }; span = BeforeEnd; what = Use });
      target = Some (record { node = record { 0 = goes_to (emptied seed) v }; span = FromStart; what = Demand });
      image = None;
    }
unfolding emptying slices_of slices_by
slices_leave seed v lt here = rw here (rw (migrates seed v lt here, state_at seed v lt) refl)

pub held_stay : (seed v : ℕ) (w : Weight) (set : Nodes) (g : Stage) → v < machine_total → (host_of v == emptied seed) ≡ false
    → held_by (generated seed) v w set (emptying seed (vm v)) g ≡ cond (set (host_of v) && true) (weight_of (generated seed) v w Use) 0 + 0 + 0
unfolding held_by
held_stay seed v w set g lt other = rw (slices_stay seed v lt other) refl

pub held_leave : (seed v : ℕ) (w : Weight) (set : Nodes) (g : Stage) → v < machine_total → (host_of v == emptied seed) ≡ true
    → held_by (generated seed) v w set (emptying seed (vm v)) g
    ≡ cond (set (host_of v) && not g.ended) (weight_of (generated seed) v w Use) 0 + cond (set (goes_to (emptied seed) v) && g.started) (weight_of (generated seed) v w Demand) 0 + 0
unfolding held_by
held_leave seed v w set g lt here = rw (slices_leave seed v lt here) refl
