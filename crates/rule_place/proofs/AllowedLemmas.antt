-- Machines that are nowhere that a constraint forbids to them.
use Rattle.rule_place.proofs.Prelude.{IsTrue, slice_index_or, ◌≡◌, ◌≢◌, inl, inr, ℕ, ◌<◌, ◌≤◌, Bool, true, false, ◌&&◌, ◌||◌, ◌==◌, nat_lt, List, [], length, Some, refl, sym, ◌∙◌, arith, and_parts, eqb-true, false≢true, nat_tests, Idle, Place, sound_form, surely_each, end_is_choice, ends_of_rows, some_end, own_present, same_present, vm_or}
use Rattle.rule_place.specs.Prelude.{Act, Allowed, are_below, At, Choice, choices, Climbs, Constraint, DomainView, Element, ForbidsPlace, form_of, has_come, hosted_in, Instance, inventory_of, is_continuous, is_rule, IsAllowed, IsClean, IsDue, IsEnd, IsMember, IsOffHost, leave_of, machine_count, MayGo, never, no_row, Nodes, Nowhere, of_kind, one, Place as PlaceKind, Places, Presence, present_at, reason_kind, Row, rule_watch, Sets, setting, state_of, sure, vm, VmId}
use Rattle.rule_place.proofs.ShutdownLemmas.{holds_none}

-- ---- the host

-- a constraint that is not continuous is due at the horizon alone
at-horizon : (b : Bool) (t h : ℕ) → b ≡ false → IsTrue (b || (t == h)) → t ≡ h
at-horizon true t h e due = cc
at-horizon false t h e due = eqb-true t h due

has-left : (b : Bool) (t leave : ℕ) → leave ≤ t → (b && nat_lt t leave) ≡ false
has-left true t leave l = grind (arith, nat_tests)
has-left false t leave l = refl

pub leaves_host : (p : Instance) (k : Constraint) (v : ℕ) (cs : List Choice) → is_continuous k ≡ false → ((c : Choice) → IsEnd cs c → leave_of p v c ≤ p.horizon) → IsOffHost p k v cs
leaves_host p k v cs discrete leaves = record {
  off = λ n t c due not_there end.
      let at : t ≡ p.horizon = at-horizon (is_continuous k) t p.horizon discrete due.1 in
      has-left (hosted_in (state_of p v) (one n)) t (leave_of p v c) (omega (arith, leaves c end, at));
}

pub no_host : (p : Instance) (k : Constraint) (v : ℕ) (cs : List Choice) → ((set : Nodes) → hosted_in (state_of p v) set ≡ false) → IsOffHost p k v cs
no_host p k v cs none = record { off = λ n t c due not_there end. rw (none (one n)) refl }

pub other_host : (p : Instance) (k : Constraint) (v h : ℕ) (cs : List Choice) → ((set : Nodes) → hosted_in (state_of p v) set ≡ set h) → ¬ ForbidsPlace p k v h → IsOffHost p k v cs
other_host p k v h cs is allowed = record { off = λ n t c due not_there end. rw (is (one n)) (by n not_there (nat_lt t (leave_of p v c)) (one n h) refl) }
  where
    by : (n : ℕ) → ForbidsPlace p k v n → (late b : Bool) → one n h ≡ b → (b && late) ≡ false
    by n not_there late false e = refl
    by n not_there late true e = let same : h ≡ n = eqb-true h n e in absurd (allowed (rw same not_there))

-- ---- the rows

never-goes : (p : Instance) (k : Constraint) (v n t u : ℕ) (q : Place) → MayGo p k v q → ForbidsPlace p k v n → has_come n t (Act q u) ≡ false
never-goes p k v n t u Nowhere may not_there = refl
never-goes p k v n t u (At m) may not_there = by (has_come n t (Act (At m) u)) refl
  where
    by : (b : Bool) → has_come n t (Act (At m) u) ≡ b → b ≡ false
    by false e = refl
    by true e = let same : m.0 ≡ n = eqb-true m.0 n (and_parts (one n m.0) _ e).0 in absurd (may (rw same not_there))

pub is_allowed : (p : Instance) (s : Sets) (k : Constraint) (v : ℕ) (d : DomainView) (rows : List Row) → p.horizon < never → s (vm v) ≡ choices d → choices d ≢ [] → rows ≡ d.rows → Climbs 0 rows → ((i : ℕ) → i < length rows → MayGo p k v (slice_index_or rows i no_row).place) → IsOffHost p k v (choices d) → IsAllowed p s k v
is_allowed p s k v d rows short is some same climbs may host = record {
  some = rw is some;
  off = λ n t c due not_there end.
      let own = rw is at end in
      let none = holds_none p v n t Presence c (omega (arith, due.0, short)) (host.off n t c due not_there own) (come n t c not_there own) in
      rw none refl;
}
  where
    come : (n t : ℕ) (c : Choice) → ForbidsPlace p k v n → IsEnd (choices d) c → has_come n t c ≡ false
    come n t Idle not_there end = refl
    come n t (Act q u) not_there end =
        let r = (ends_of_rows d (rw same at climbs) (Act q u)).0 end in
        never-goes p k v n t u q (rw r.2 at ((rw same at may) r.0 r.1)) not_there

-- ---- the constraint

module _ (p : Instance) (s : Sets) (k : Constraint) where
  surely-off : (v n t : ℕ) → IsDue p k t → IsAllowed p s k v → ForbidsPlace p k v n → IsTrue ((sure p s t).present v (one n)) → ⊥
  unfolding sure
  surely-off v n t due allowed not_there present =
      let c = some_end (s (vm v)) allowed.some in
      false≢true (sym (allowed.off n t c.0 due not_there c.1) ∙ surely_each (present_at p v (one n) t) (s (vm v)) c.0 (end_is_choice (s (vm v)) c.0 c.1) present)

  off-with : (v n t : ℕ) (e : Element) (c : Choice) → IsDue p k t → IsAllowed p s k v → ForbidsPlace p k v n → IsEnd (s e) c → IsTrue ((sure p (setting e c s) t).present v (one n)) → ⊥
  off-with v n t e c due allowed not_there end present =
      elim (vm_or e v) [
        | inl same ↦ false≢true (sym (allowed.off n t c due not_there (rw same at end)) ∙ (sym (own_present p s v n t c) ∙ (rw same at present)))
        | inr other ↦ surely-off v n t due allowed not_there (sym (same_present p s e c v n t other) ∙ present)
      ]

  place-clean : reason_kind k ≡ Some PlaceKind → ((v n : ℕ) → ForbidsPlace p k v n → IsAllowed p s k v) → IsClean (rule_watch p k) p s
  place-clean is allowed t l = record {
    base = λ x. let h = of_kind p (sure p s t) PlaceKind k is x.1 in surely-off h.0 h.1 t (l, x.0) (allowed h.0 h.1 h.4.forbidden) h.4.forbidden h.4.present;
    ends = λ e c there end x.
        let h = of_kind p (sure p (setting e c s) t) PlaceKind k is x.1 in
        off-with h.0 h.1 t e c (l, x.0) (allowed h.0 h.1 h.4.forbidden) h.4.forbidden end h.4.present;
  }

  pub allowed_clean : (vs : List VmId) (places : Places) → form_of k ≡ Allowed vs places → ((v : ℕ) → IsMember vs v → IsAllowed p s k v) → IsClean (rule_watch p k) p s
  allowed_clean vs places is each = place-clean (rw is refl) (λ v n h. each v (rw is at h).0)

-- the members are listed of a constraint without a fault
pub allowed_listed : (p : Instance) (k : Constraint) (vs : List VmId) (places : Places) → form_of k ≡ Allowed vs places → is_rule (inventory_of p) k ≡ true → are_below (machine_count p) vs ≡ true
allowed_listed p k vs places is rule = rw is at (sound_form p k rule).listed
