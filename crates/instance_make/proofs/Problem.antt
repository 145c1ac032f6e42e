-- What a generated problem says of its machines and nodes.
use Rattle.std.proofs.Common.{map, slice_get, if◌then◌else◌}
use Rattle.base.proofs.Public.{◌≡◌, ◌≢◌, ℕ, zero, suc, ◌+◌, ◌<◌, ◌≤◌, ◌==◌, ◌||◌, Bool, true, false, not, List, [], ◌∷◌, ◌++◌, length, max, slice_index, nat_lt, Some, None, refl, ap, ap₂, ◌∙◌, arith, ⊎_elim, cases_eq, lt-ltb, Decides-eqb, nat_tests, filter, fold, list_any, range_with_len}
use Rattle.instance_make.specs.Prelude.{amounts, capacity_of, common_of, cpu_of, demand_of, differs_in, emptied, from, generated, generated_constraints, generated_machine, generated_node, has_node, host_of, is_online, is_raised, Keep, kinds, limit_of, limit_with, machine_own, machine_total, machine_wish_with, mem_of, Migrate, node_own, node_total, node_wish_with, NodeSet, NodeShutdown, Offline as ToOffline, Online as ToOnline, others, preserved_of, preserved_with, Running, set_of, spread_of, state_of, To, use_of, VmId, vms, wanted_machine, wanted_node, Wish, wish_where, written_of}
use Rattle.catalogue.specs.declared.constraint.Constraint.{Constraint}
use Rattle.catalogue.specs.declared.constraint.Constraint.TheVariants.{Ban, RunningCapacity, Online, Offline}
use Rattle.instance_make.proofs.Ruling.{has_node-set_of, others_below}

get_map : {A : Type 0} (f : ℕ → A) (n a i j : ℕ) → i < n → a + i ≡ j → slice_get (map f (range_with_len a n)) i ≡ Some (f j)
get_map f zero a i j lt is = absurd (omega arith)
get_map f (suc n) a zero j lt is = let same : a ≡ j = omega arith in ap (λ x. Some (f x)) same
get_map f (suc n) a (suc i) j lt is = get_map f n (a + 1) i j (omega arith) (omega arith)

-- ---- constraints of that form say nothing of machines, demands and capacities

abbrev rules_with : (offline online last ten : NodeSet) (banned : List VmId) → List Constraint
rules_with offline online last ten banned = Offline offline ∷ Online online ∷ (map spread_of (from 0 10) ++ Ban banned last false ∷ RunningCapacity ten 60 true ∷ [])

no_wish : (v : ℕ) (offline online last ten : NodeSet) (banned : List VmId) → fold (machine_wish_with v) Keep (rules_with offline online last ten banned) ≡ Keep
no_wish v offline online last ten banned = refl

none_preserved : (v r : ℕ) (offline online last ten : NodeSet) (banned : List VmId) → fold (preserved_with v r) 0 (rules_with offline online last ten banned) ≡ 0
none_preserved v r offline online last ten banned = refl

no_limit : (n r w : ℕ) (offline online last ten : NodeSet) (banned : List VmId) → fold (limit_with n r w) None (rules_with offline online last ten banned) ≡ None
no_limit n r w offline online last ten banned = refl

node_wish : (n : ℕ) (offline online last ten : NodeSet) (banned : List VmId)
    → fold (node_wish_with n) Keep (rules_with offline online last ten banned) ≡ wish_where (has_node online n) (wish_where (has_node offline n) Keep ToOffline) ToOnline
node_wish n offline online last ten banned = refl

-- ---- machines

module _ (seed : ℕ) where
  machine_at : (v : ℕ) → v < machine_total → slice_get (generated seed).machines v ≡ Some (generated_machine seed v)
  unfolding generated
  machine_at v lt = get_map (generated_machine seed) machine_total 0 v v lt (omega arith)

  pub state_at : (v : ℕ) → v < machine_total → state_of (generated seed) v ≡ Running (record { 0 = host_of v })
  unfolding generated_machine
  state_at v lt = rw (machine_at v lt) refl

  pub use_at : (v r : ℕ) → v < machine_total → use_of (generated seed).machines v r ≡ slice_index (amounts (cpu_of seed v) (mem_of seed v)) r
  unfolding generated_machine
  use_at v r lt = rw (machine_at v lt) refl

  pub wanted_at : (v : ℕ) → wanted_machine (generated seed) v ≡ Keep
  unfolding wanted_machine generated generated_constraints
  wanted_at v = no_wish v (set_of (emptied seed ∷ [])) (set_of (others (emptied seed))) (set_of (39 ∷ [])) (set_of (from 10 10)) (vms (from 40 10))

  max_zero : (a : ℕ) → max a 0 ≡ a
  max_zero a = omega arith

  pub demand_at : (v r : ℕ) → demand_of (generated seed) v r ≡ use_of (generated seed).machines v r
  unfolding demand_of preserved_of generated generated_constraints
  demand_at v r =
      ap (max (use_of (map (generated_machine seed) (from 0 machine_total)) v r)) (none_preserved v r (set_of (emptied seed ∷ [])) (set_of (others (emptied seed))) (set_of (39 ∷ [])) (set_of (from 10 10)) (vms (from 40 10)))
      ∙ max_zero (use_of (map (generated_machine seed) (from 0 machine_total)) v r)

  same_differs : (v r : ℕ) → differs_in (generated seed) v r ≡ false
  same_differs v r =
      let same : (demand_of (generated seed) v r == use_of (generated seed).machines v r) ≡ true = (Decides-eqb (demand_of (generated seed) v r) (use_of (generated seed).machines v r)).1 (demand_at v r) in
      rw same refl

  two_resources : length (generated seed).resources ≡ 2
  unfolding generated
  two_resources = refl

  pub raised_at : (v : ℕ) → is_raised (generated seed) v ≡ false
  raised_at v = ap (λ n. list_any (differs_in (generated seed) v) (range_with_len 0 n)) two_resources ∙ rw (same_differs v 0, same_differs v 1) refl

  -- ---- nodes

  pub node_count_at : length (generated seed).nodes ≡ node_total
  unfolding generated
  node_count_at = refl

  pub machine_count_at : length (generated seed).machines ≡ machine_total
  unfolding generated
  machine_count_at = refl

  pub online_at : (n : ℕ) → n < node_total → is_online (generated seed).nodes n ≡ true
  unfolding generated generated_node
  online_at n lt = rw (get_map generated_node node_total 0 n n lt (omega arith)) refl

  written_at : (n r : ℕ) → n < node_total → written_of (generated seed).nodes n r ≡ slice_index (amounts 32 64) r
  unfolding generated generated_node
  written_at n r lt = rw (get_map generated_node node_total 0 n n lt (omega arith)) refl

  no_limit_at : (n r : ℕ) → limit_of (generated seed) n r ≡ None
  unfolding limit_of generated generated_constraints
  no_limit_at n r = no_limit n r (written_of (map generated_node (from 0 node_total)) n r) (set_of (emptied seed ∷ [])) (set_of (others (emptied seed))) (set_of (39 ∷ [])) (set_of (from 10 10)) (vms (from 40 10))

  pub capacity_at : (n r : ℕ) → n < node_total → capacity_of (generated seed) n r ≡ slice_index (amounts 32 64) r
  unfolding capacity_of
  capacity_at n r lt = rw (no_limit_at n r) (written_at n r lt)

  -- ---- durations

  pub own_at : (v : ℕ) → v < machine_total → machine_own (slice_get (generated seed).machines v) 5 ≡ None
  unfolding generated_machine
  own_at v lt = rw (machine_at v lt) refl

  pub node_own_at : (n : ℕ) → n < node_total → node_own (slice_get (generated seed).nodes n) 9 ≡ None
  unfolding generated generated_node
  node_own_at n lt = rw (get_map generated_node node_total 0 n n lt (omega arith)) refl

  pub migration_at : common_of (generated seed) Migrate ≡ record { base = 2; per = 1; resource = Some 1 }
  unfolding generated kinds
  migration_at = refl

  pub shutdown_at : common_of (generated seed) NodeShutdown ≡ record { base = 2; per = 0; resource = None }
  unfolding generated kinds
  shutdown_at = refl

  pub horizon_at : (generated seed).horizon ≡ 60
  unfolding generated
  horizon_at = refl

  -- ---- the wishes of the nodes

  node_wish_at : (n : ℕ) → wanted_node (generated seed) n ≡ wish_where (has_node (set_of (others (emptied seed))) n) (wish_where (has_node (set_of (emptied seed ∷ [])) n) Keep ToOffline) ToOnline
  unfolding wanted_node generated generated_constraints
  node_wish_at n = node_wish n (set_of (emptied seed ∷ [])) (set_of (others (emptied seed))) (set_of (39 ∷ [])) (set_of (from 10 10)) (vms (from 40 10))

below_filter : (test : ℕ → Bool) (c a n : ℕ) → n < a → list_any (λ j. n == j) (filter test (range_with_len a c)) ≡ false
below_filter test zero a n lt = refl
below_filter test (suc c) a n lt = by (test a) (below_filter test c (a + 1) n (omega arith))
  where
    other : (n == a) ≡ false
    other = grind (arith, nat_tests)

    by : (b : Bool) → list_any (λ j. n == j) (filter test (range_with_len (a + 1) c)) ≡ false
        → list_any (λ j. n == j) (if b then a ∷ filter test (range_with_len (a + 1) c) else filter test (range_with_len (a + 1) c)) ≡ false
    by true later = rw other later
    by false later = later

in_filter : (test : ℕ → Bool) (c a n : ℕ) → a ≤ n → n < a + c → list_any (λ j. n == j) (filter test (range_with_len a c)) ≡ test n
in_filter test zero a n low high = absurd (omega arith)
in_filter test (suc c) a n low high = ⊎_elim
    (λ (same : n ≡ a). rw same (here (test a) (below_filter test c (a + 1) a (omega arith))))
    (λ (other : n ≢ a). there (test a) (grind (arith, nat_tests)) (in_filter test c (a + 1) n (omega arith) (omega arith)))
    (cases_eq n a)
  where
    self : (a == a) ≡ true
    self = (Decides-eqb a a).1 refl

    here : (b : Bool) → list_any (λ j. a == j) (filter test (range_with_len (a + 1) c)) ≡ false
        → list_any (λ j. a == j) (if b then a ∷ filter test (range_with_len (a + 1) c) else filter test (range_with_len (a + 1) c)) ≡ b
    here true none = rw self refl
    here false none = none

    there : (b : Bool) → (n == a) ≡ false → list_any (λ j. n == j) (filter test (range_with_len (a + 1) c)) ≡ test n
        → list_any (λ j. n == j) (if b then a ∷ filter test (range_with_len (a + 1) c) else filter test (range_with_len (a + 1) c)) ≡ test n
    there true other later = rw other later
    there false other later = later

pub is_other : (k n : ℕ) → k < node_total → n < node_total → has_node (set_of (others k)) n ≡ not (n == k)
is_other k n low lt = has_node-set_of (others k) n (others_below k low) ∙ in_filter (λ j. not (j == k)) node_total 0 n (omega arith) (omega arith)

is_emptied : (k n : ℕ) → k < node_total → has_node (set_of (k ∷ [])) n ≡ (n == k)
is_emptied k n low =
    let below : nat_lt k node_total ≡ true = lt-ltb k node_total low in
    has_node-set_of (k ∷ []) n (rw below refl) ∙ alone (n == k)
  where
    alone : (b : Bool) → (b || false) ≡ b
    alone true = refl
    alone false = refl

-- the wish, by whether the node is one of the others, and whether it is the emptied one
abbrev wish_by : Bool → Bool → Wish
wish_by other here = wish_where other (wish_where here Keep ToOffline) ToOnline

pub emptied_wish : (seed : ℕ) → wanted_node (generated seed) (emptied seed) ≡ To ToOffline
emptied_wish seed =
    let low : emptied seed < node_total = omega arith in
    let self : (emptied seed == emptied seed) ≡ true = (Decides-eqb (emptied seed) (emptied seed)).1 refl in
    node_wish_at seed (emptied seed) ∙ ap₂ wish_by (is_other (emptied seed) (emptied seed) low low ∙ ap not self) (is_emptied (emptied seed) (emptied seed) low ∙ self)

pub other_wish : (seed n : ℕ) → n < node_total → (n == emptied seed) ≡ false → wanted_node (generated seed) n ≡ To ToOnline
other_wish seed n lt other =
    let low : emptied seed < node_total = omega arith in
    node_wish_at seed n ∙ ap₂ wish_by (is_other (emptied seed) n low lt ∙ ap not other) (is_emptied (emptied seed) n low ∙ other)
