-- A machine that runs and goes to other nodes is at its host or there.
use Rattle.base.proofs.Public.{filter, flat_map, lt-ltb, ne_eqb, le-leb, ◌++◌}
use Rattle.rule_group.proofs.Prelude.{and_parts, ap, arith, Bool, cases_lt, cond, eq-eqb, eqb-true, false, false≢true, inl, inr, IsTrue, kept_law, leb-true, length, List, nat_le, nat_lt, None, not, of_one, numbers, refl, slice_index_or, Some, suc, sym, true, zero, [], ℕ, ◌&&◌, ◌+◌, ◌<◌, ◌==◌, ◌∙◌, ◌∷◌, ◌≡◌, ◌≢◌, ◌≤◌, ◌⊎◌}
use Rattle.rule_group.specs.Prelude.{Act, AnyPlace, AreLeaves, At, Choice, choices, DomainView, Idle, Instance, in_part, IsOut, keeping, leave_of, MovesTo, never, no_row, node_count, NodeId, Nodes, Nowhere, one, Presence, present_at, Row, Sets, StandsAt, StandsUnder, state_of, sure, surely, Vm, vm, VmId}
use Rattle.reasons.specs.Prelude.{is_raised, kind_of, wanted_state}
use Rattle.slices.specs.Actions.{machine_kind}
use Rattle.slices.proofs.Public.{present_on_set}
use Rattle.rule_constraint.specs.Prelude.{Upto}
use Rattle.relax.specs.Prelude.{Part}
use Rattle.domains.specs.Prelude.{place_index, row_choices, same_place, starts_from}
use Rattle.standings.specs.declared.leaves.Leaves.{Leaves}
use Rattle.cluster.specs.declared.kinds.Kind.TheVariants.{Migrate}
use Rattle.cluster.specs.declared.states.State.{State}
use Rattle.cluster.specs.declared.states.State.TheVariants.{Running}
use Rattle.catalogue.specs.declared.targets.Target.TheVariants.{Online as ToOnline, Offline as ToOffline, Running as ToRunning, Sleeping as ToSleeping, Ready as ToReady, Killed as ToKilled}
use Rattle.catalogue.specs.declared.targets.Wish.{Wish}
use Rattle.catalogue.specs.declared.targets.Wish.TheVariants.{Keep, To, Clash}

-- ---- all choices of a domain

surely-append : (f : Choice → Bool) (xs ys : List Choice) → IsTrue (surely f xs) → IsTrue (surely f ys) → IsTrue (surely f (xs ++ ys))
surely-append f [] ys h k = k
surely-append f (x ∷ xs) ys h k =
    let parts = and_parts (f x) (surely f xs) h in
    let first : f x ≡ true = parts.0 in
    rw first (surely-append f xs ys parts.1 k)

all-starts : (f : Choice → Bool) (q : AnyPlace) (from count : ℕ) → ((s : ℕ) → IsTrue (f (Act q s))) → IsTrue (surely f (starts_from q from count))
all-starts f q from zero h = refl
all-starts f q from (suc count) h = let first : f (Act q from) ≡ true = h from in rw first (all-starts f q (from + 1) count h)

all-rows : (f : Choice → Bool) (rows : List Row) → ((k s : ℕ) → k < length rows → IsTrue (f (Act (slice_index_or rows k no_row).place s))) → IsTrue (surely f (flat_map row_choices rows))
all-rows f [] h = refl
all-rows f (r ∷ rs) h =
    surely-append f (row_choices r) (flat_map row_choices rs) (all-starts f r.place r.lo _ (λ s. h 0 s (omega arith))) (all-rows f rs (λ k s l. h (suc k) s (omega (arith, l))))

all-choices : (f : Choice → Bool) (d : DomainView) → IsTrue (f Idle) → ((k s : ℕ) → k < length d.rows → IsTrue (f (Act (slice_index_or d.rows k no_row).place s))) → IsTrue (surely f (choices d))
all-choices f d idle h = surely-append f (cond d.idle (Idle ∷ []) []) (flat_map row_choices d.rows) (by d.idle) (all-rows f d.rows h)
  where
    by : (b : Bool) → IsTrue (surely f (cond b (Idle ∷ []) []))
    by true = let first : f Idle ≡ true = idle in rw first refl
    by false = refl

-- ---- the kind of its action

kind-away : (h n : NodeId) (w : Wish) (raised : Bool) → (n.0 == h.0) ≡ false → (machine_kind (Running h) w raised (At n) ≡ None) ⊎ (machine_kind (Running h) w raised (At n) ≡ Some Migrate)
kind-away h n Keep raised e = inl refl
kind-away h n Clash raised e = inl refl
kind-away h n (To ToOnline) raised e = inl refl
kind-away h n (To ToOffline) raised e = inl refl
kind-away h n (To ToRunning) raised e = inr (rw e refl)
kind-away h n (To ToSleeping) raised e = inl (rw e refl)
kind-away h n (To ToReady) raised e = inl refl
kind-away h n (To ToKilled) raised e = inl refl

of-running : (s : State) (h n : NodeId) (w : Wish) (raised : Bool) → s ≡ Running h → (n.0 == h.0) ≡ false → (machine_kind s w raised (At n) ≡ None) ⊎ (machine_kind s w raised (At n) ≡ Some Migrate)
of-running s h n w raised runs e = rw runs (kind-away h n w raised e)

kept-on-host : (b : Bool) (m : ℕ) → b ≡ true → nat_lt 0 (cond (true && b) 1 0 + m) ≡ true
kept-on-host b m e = rw e (lt-ltb 0 (1 + m) (omega arith))

come-there : (b : Bool) (m : ℕ) → b ≡ true → nat_lt 0 (m + cond (true && b) 1 0) ≡ true
come-there b m e = rw e (lt-ltb 0 (m + 1) (omega arith))

module _ (p : Instance) (v : ℕ) (h : NodeId) (x : Leaves) (runs : state_of p v ≡ Running h) (same : h.0 ≡ x.host.0) (leaves : AreLeaves p v x) where
  kind-there : (n : NodeId) → n.0 < node_count p → n.0 ≢ h.0 → (kind_of p (vm v) (At n) ≡ None) ⊎ (kind_of p (vm v) (At n) ≡ Some Migrate)
  unfolding kind_of
  kind-there n l ne = let there : nat_lt n.0 (node_count p) ≡ true = lt-ltb n.0 (node_count p) l in rw there (of-running (state_of p v) h n (wanted_state p v) (is_raised p v) runs (ne_eqb n.0 h.0 ne))

  moves : (n : NodeId) → n.0 < node_count p → n.0 ≢ h.0 → kind_of p (vm v) (At n) ≡ Some Migrate
  moves n l ne = elim (kind-there n l ne) [
    | inr is ↦ is
    | inl none ↦
        let left : leave_of p v (Act (At n) 1) ≡ 1 + x.lasts = leaves.each n 1 l (λ e. ne (e ∙ sym same)) in
        let no : 0 ≡ 1 + x.lasts = (rw none at left) in
        absurd (omega (arith, no))
  ]

  -- ---- one choice

  at-host : (t : ℕ) (c : Choice) → t < never → t < leave_of p v c → IsTrue (present_at p v (one h.0) t c)
  at-host t c short late =
      let there : (h.0 == h.0) ≡ true = eq-eqb h.0 h.0 refl in
      let law = kept_law p v Presence h.0 t (c ∷ []) (numbers p v c) short (of_one p v c) in
      ap (λ (m : ℕ). nat_lt 0 m) law ∙ rw (runs, there) (kept-on-host (nat_lt t (leave_of p v c)) _ (lt-ltb t (leave_of p v c) late))

  at-place : (t s : ℕ) (n : NodeId) → t < never → n.0 < node_count p → n.0 ≢ h.0 → s ≤ t → IsTrue (present_at p v (one n.0) t (Act (At n) s))
  at-place t s n short l ne early =
      let there : (n.0 == n.0) ≡ true = eq-eqb n.0 n.0 refl in
      let law = kept_law p v Presence n.0 t (Act (At n) s ∷ []) (numbers p v (Act (At n) s)) short (of_one p v (Act (At n) s)) in
      ap (λ (m : ℕ). nat_lt 0 m) law ∙ rw (moves n l ne, there) (come-there (nat_le s t) _ (le-leb s t early))

  row-outside : (set : Nodes) (t s : ℕ) (q : AnyPlace) → t < never → IsTrue (set h.0) → ((n : NodeId) → q ≡ At n → (n.0 < node_count p) × (n.0 ≢ h.0) × IsTrue (set n.0)) → q ≢ Nowhere → IsTrue (present_at p v set t (Act q s))
  row-outside set t s Nowhere short host out some = absurd (some refl)
  row-outside set t s (At n) short host out some =
      let at = out n refl in
      elim (cases_lt t s) [
        | inl early ↦
            let left : leave_of p v (Act (At n) s) ≡ s + x.lasts = leaves.each n s at.0 (λ e. at.1 (e ∙ sym same)) in
            present_on_set p v h.0 set t (Act (At n) s) host (at-host t (Act (At n) s) short (omega (arith, left, early)))
        | inr late ↦ present_on_set p v n.0 set t (Act (At n) s) at.2 (at-place t s n short at.0 at.1 (omega (arith, late)))
      ]

-- ---- all of them

out-node : (p : Instance) (h : NodeId) (set : Nodes) (q : AnyPlace) → IsOut p h set q → (n : NodeId) → q ≡ At n → (n.0 < node_count p) × (n.0 ≢ h.0) × IsTrue (not (set n.0))
out-node p h set q out n is = let at = rw is at out in (at.0, at.1, rw at.2 refl)

out-some : (p : Instance) (h : NodeId) (set : Nodes) (q : AnyPlace) → IsOut p h set q → q ≢ Nowhere
out-some p h set q out is = rw is at out

pub goes_elsewhere : (p : Instance) (s : Sets) (v t : ℕ) (h : NodeId) (x : Leaves) (set : Nodes) (d : DomainView) (rows : List Row) → t < never → s (vm v) ≡ choices d → rows ≡ d.rows → state_of p v ≡ Running h → h.0 ≡ x.host.0 → AreLeaves p v x → set h.0 ≡ false → ((k : ℕ) → k < length rows → IsOut p h set (slice_index_or rows k no_row).place) → IsTrue ((sure p s t).present v (λ n. not (set n)))
unfolding sure
goes_elsewhere p s v t h x set d rows short is are runs same leaves host out =
    let there : IsTrue (not (set h.0)) = rw host refl in
    let idle : IsTrue (present_at p v (λ n. not (set n)) t Idle) = present_on_set p v h.0 (λ n. not (set n)) t Idle there (at-host p v h x runs same leaves t Idle short short) in
    rw is
    (all-choices (present_at p v (λ n. not (set n)) t) d idle
    (λ k u l.
    let at = (rw are at out) k l in
    row-outside p v h x runs same leaves (λ n. not (set n)) t u (slice_index_or d.rows k no_row).place short there (out-node p h set _ at) (out-some p h set _ at)))

-- where all choices of a machine are seen
pub same_present : (p : Instance) (s r : Sets) (v t : ℕ) (set : Nodes) → s (vm v) ≡ r (vm v) → IsTrue ((sure p r t).present v set) → IsTrue ((sure p s t).present v set)
unfolding sure
same_present p s r v t set same h = rw same h

-- ---- a machine that goes to a node by an instant

surely-kept : (f test : Choice → Bool) (cs : List Choice) → ((c : Choice) → IsTrue (test c) → IsTrue (f c)) → IsTrue (surely f (filter test cs))
surely-kept f test [] h = refl
surely-kept f test (c ∷ cs) h = by (surely-kept f test cs h) (test c) refl
  where
    by : IsTrue (surely f (filter test cs)) → (b : Bool) → test c ≡ b → IsTrue (surely f (filter test (c ∷ cs)))
    by rest true e = let first : f c ≡ true = h c e in rw (e, first) rest
    by rest false e = rw e rest

of-part : (q : AnyPlace) (s last : ℕ) (n : NodeId) → IsTrue (in_part (Upto (At n) last) (Act q s)) → (m : NodeId) × (q ≡ At m) × (m.0 ≡ n.0) × (s ≤ last)
of-part Nowhere s last n h = let both = and_parts (same_place Nowhere (At n)) (nat_le s last) h in let at = eqb-true (place_index Nowhere) (place_index (At n)) both.0 in absurd (omega (arith, at))
of-part (At m) s last n h =
    let both = and_parts (same_place (At m) (At n)) (nat_le s last) h in
    let at = eqb-true (place_index (At m)) (place_index (At n)) both.0 in
    (m, refl, omega (arith, at), leb-true s last both.1)

module _ (p : Instance) (v : ℕ) (h n : NodeId) (x : Leaves) (t last : ℕ) (runs : state_of p v ≡ Running h) (same : h.0 ≡ x.host.0) (leaves : AreLeaves p v x) (short : t < never) (low : n.0 < node_count p) (other : n.0 ≢ h.0) (early : last ≤ t) (set : Nodes) (lacks : set n.0 ≡ false) where
  has-come : (c : Choice) → IsTrue (in_part (Upto (At n) last) c) → IsTrue (present_at p v (λ k. not (set k)) t c)
  has-come Idle inside = absurd (false≢true inside)
  has-come (Act q s) inside =
      let at = of-part q s last n inside in
      let m = at.0 in
      let out : IsTrue (not (set m.0)) = rw (at.2, lacks) refl in
      rw at.1 (present_on_set p v m.0 (λ k. not (set k)) t (Act (At m) s) out (at-place p v h x runs same leaves t s m short (rw at.2 low) (rw at.2 other) (omega (arith, at.3, early))))

-- it stands there under each choice of the part
goes-to : (p : Instance) (s : Sets) (v : VmId) (h n : NodeId) (x : Leaves) (t last : ℕ) → state_of p v.0 ≡ Running h → h.0 ≡ x.host.0 → AreLeaves p v.0 x → t < never → n.0 < node_count p → n.0 ≢ h.0 → last ≤ t → StandsAt (sure p (keeping (Vm v) (in_part (Upto (At n) last)) s) t) v.0 (record { host = None; place = Some n })
unfolding sure
goes-to p s v h n x t last runs same leaves short low other early = record {
  outside = λ set host lacks.
      let own : (v.0 == v.0) ≡ true = eq-eqb v.0 v.0 refl in
      rw own (surely-kept (present_at p v.0 (λ k. not (set k)) t) (in_part (Upto (At n) last)) (s (vm v.0)) (has-come p v.0 h n x t last runs same leaves short low other early set lacks));
}

-- so it is where it moves to that node
pub stands_under : (p : Instance) (v : VmId) (n : NodeId) (t last : ℕ) (part : Part) (q : AnyPlace) → part ≡ Upto q last → q ≡ At n → MovesTo p v.0 n → t < never → last ≤ t → StandsUnder p v part t (record { host = None; place = Some n })
stands_under p v n t last part q is at m short early = rw (is, at) record { stands = λ s. goes-to p s v m.host n m.leaves t last m.runs m.same m.are short m.low m.other early }
