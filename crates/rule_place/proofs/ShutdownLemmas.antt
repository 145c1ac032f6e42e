-- Nodes that shut down after what is there has left.
use Rattle.rule_place.proofs.Prelude.{IsTrue, slice_index_or, ◌≡◌, ◌≢◌, ◌⊎◌, inl, inr, ℕ, ◌<◌, ◌≤◌, Bool, true, false, ◌&&◌, ◌||◌, nat_le, nat_lt, List, [], ◌∷◌, length, refl, sym, ap, ◌∙◌, arith, Contains, cases_eq, cases_lt, false≢true, nat_tests, Idle, Place, least_of_each, may_each, surely_each, end_is_choice, ends_of_rows, setting_sets, some_end, kept_law, arrival, arrived, numbers, of_one, other-vm}
use Rattle.rule_place.specs.Prelude.{Act, Choice, choices, Climbs, comes_by, DomainView, Element, has_come, held_at, hosted_in, Image, Instance, IsClean, IsElement, IsEnd, IsMachineUnder, IsNeeded, IsSameMachine, IsShutdown, kept_use, leave_of, LetsGo, machine_count, never, no_row, node, Node as TheNode, NodeId, one, Presence, present_at, Row, row_at, Sets, setting, Shutdown, Snapshot, stage_at, stands_on, StandsUnder, state_of, sure, usable_at, usable_watch, Vm, vm, Weight}

-- ---- the node

-- a node that is usable at first is so until it starts to shut down
until-start : (p : Instance) (n t s : ℕ) (q : Place) → usable_at p n 0 Idle ≡ true → t < s → usable_at p n t (Act q s) ≡ true
unfolding usable_at stage_at
until-start p n t s q on early = let later : nat_le s t ≡ false = grind (arith, nat_tests, early) in rw (on, later) refl

first-row : (rows : List Row) → length rows ≡ 1 → Climbs 0 rows → (slice_index_or rows 0 no_row).lo ≤ (slice_index_or rows 0 no_row).hi
first-row [] h c = cc
first-row (r ∷ rs) h c = c.1

-- so are the ends of its one row, before the first start
pub ends_usable : (p : Instance) (n t : ℕ) (d : DomainView) (rows : List Row) → usable_at p n 0 Idle ≡ true → rows ≡ d.rows → Climbs 0 rows → length rows ≡ 1 → (q : Place) (u : ℕ) → IsEnd (choices d) (Act q u) → t < (slice_index_or rows 0 no_row).lo → usable_at p n t (Act q u) ≡ true
ends_usable p n t d rows on same climbs single q u end early =
    let r = (ends_of_rows d (rw same at climbs) (Act q u)).0 end in
    let at : r.0 ≡ 0 = omega (arith, r.1, (rw same at single)) in
    let start : t < (row_at d 0).lo = rw same at early in
    let order : (row_at d 0).lo ≤ (row_at d 0).hi = first-row d.rows (rw same at single) (rw same at climbs) in
    until-start p n t u q on
    (elim r.3 [ inl low ↦ omega (arith, (rw at at low), start) | inr high ↦ omega (arith, (rw at at high), start, order) ])

pub shutdown_is : (p : Instance) (s : Sets) (n : ℕ) (d : DomainView) (rows : List Row) → usable_at p n 0 Idle ≡ true → s (node n) ≡ choices d → d.idle ≡ false → rows ≡ d.rows → Climbs 0 rows → length rows ≡ 1 → IsShutdown p s n (record { first = (slice_index_or rows 0 no_row).lo; last = (slice_index_or rows 0 no_row).hi })
unfolding sure
shutdown_is p s n d rows on is idle same climbs single = rw same (record { order = order; ends = ends; may = may })
  where
    own : Climbs 0 d.rows
    own = rw same at climbs

    one-row : length d.rows ≡ 1
    one-row = rw same at single

    order : (row_at d 0).lo ≤ (row_at d 0).hi
    order = first-row d.rows one-row own

    ends : (c : Choice) (t : ℕ) → IsEnd (s (node n)) c → t < (row_at d 0).lo → usable_at p n t c ≡ true
    ends Idle t end early = absurd (false≢true (sym idle ∙ (ends_of_rows d own Idle).0 (rw is at end)))
    ends (Act q u) t end early = ends_usable p n t d d.rows on refl own one-row q u (rw is at end) early

    may : (t : ℕ) → t < (row_at d 0).hi → (sure p s t).usable n ≡ true
    may t early =
        let last = Act (row_at d 0).place (row_at d 0).hi in
        let end : IsEnd (choices d) last = (ends_of_rows d own last).1 (0, omega (arith, one-row), refl, inr refl) in
        rw is (may_each (usable_at p n t) (choices d) last (end_is_choice (choices d) last end) (until-start p n t (row_at d 0).hi (row_at d 0).place on early))

-- ---- a machine

-- who has left its host, or has another one, has something on a node only where it has come there
pub holds_none : (p : Instance) (v n t : ℕ) (w : Weight) (c : Choice) → t < never → (hosted_in (state_of p v) (one n) && nat_lt t (leave_of p v c)) ≡ false → has_come n t c ≡ false → held_at p v w (one n) t c ≡ 0
holds_none p v n t w c h left come = kept_law p v w n t (c ∷ []) (numbers p v c) h (of_one p v c) ∙ nothing (arrived n t c ∙ come)
  where
    nothing : comes_by n t (arrival c) ≡ false → kept_use p v w n t (numbers p v c) ≡ 0
    nothing e = rw (left, e) refl

pub surely-gone : (p : Instance) (s : Sets) (v n t : ℕ) (c : Choice) → Contains (s (vm v)) c → held_at p v Presence (one n) t c ≡ 0 → held_at p v Image (one n) t c ≡ 0 → stands_on (sure p s t) v n ≡ false
unfolding sure
surely-gone p s v n t c there away gone = by ((sure p s t).present v (one n)) refl ((sure p s t).held v Image (one n)) none
  where
    none : (sure p s t).held v Image (one n) ≤ 0
    none = omega (arith, least_of_each (held_at p v Image (one n) t) (s (vm v)) c there, gone)

    absent : present_at p v (one n) t c ≡ false
    absent = rw away refl

    by : (b : Bool) → (sure p s t).present v (one n) ≡ b → (k : ℕ) → k ≤ 0 → (b || nat_lt 0 k) ≡ false
    by false e k h = grind (arith, nat_tests)
    by true e k h = absurd (false≢true (sym absent ∙ surely_each (present_at p v (one n) t) (s (vm v)) c there e))

-- a machine of which this is known is not there when the node shuts down
pub lets_go_by : (p : Instance) (s : Sets) (v n : ℕ) (x : Shutdown) → p.horizon < never → ((c : Choice) (t : ℕ) → Contains (s (vm v)) c → t ≤ p.horizon → has_come n t c ≡ false) → ((t : ℕ) → x.first ≤ t → (c : Choice) × Contains (s (vm v)) c × ((hosted_in (state_of p v) (one n) && nat_lt t (leave_of p v c)) ≡ false)) → ((c : Choice) (t : ℕ) → IsEnd (s (vm v)) c → x.last ≤ t → (hosted_in (state_of p v) (one n) && nat_lt t (leave_of p v c)) ≡ false) → LetsGo p s v n x
lets_go_by p s v n x short away early ends = record {
  surely = λ t l h.
      let c = early t h in
      let before : t < never = omega (arith, l, short) in
      surely-gone p s v n t c.0 c.1 (holds_none p v n t Presence c.0 before c.2 (away c.0 t c.1 l)) (holds_none p v n t Image c.0 before c.2 (away c.0 t c.1 l));
  ends = λ c t end l h stands.
      let before : t < never = omega (arith, l, short) in
      let none = λ (w : Weight). holds_none p v n t w c before (ends c t end h) (away c t (end_is_choice (s (vm v)) c end) l) in
      elim stands [ inl a ↦ omega (arith, a, none Presence) | inr b ↦ omega (arith, b, none Image) ];
}

-- one with another host
pub other_goes : (p : Instance) (s : Sets) (v n : ℕ) (x : Shutdown) → p.horizon < never → s (vm v) ≢ [] → ((c : Choice) (t : ℕ) → Contains (s (vm v)) c → t ≤ p.horizon → has_come n t c ≡ false) → hosted_in (state_of p v) (one n) ≡ false → LetsGo p s v n x
other_goes p s v n x short some away host =
    lets_go_by p s v n x short away
    (λ t h. let c = some_end (s (vm v)) some in (c.0, end_is_choice (s (vm v)) c.0 c.1, rw host refl))
    (λ c t end h. rw host refl)

pub too-late : (host : Bool) (t leave end : ℕ) → leave ≤ end → end ≤ t → (host && nat_lt t leave) ≡ false
too-late true t leave end l h = grind (arith, nat_tests)
too-late false t leave end l h = refl

-- one that leaves in time
pub host_goes : (p : Instance) (s : Sets) (v n : ℕ) (x : Shutdown) → p.horizon < never → ((c : Choice) (t : ℕ) → Contains (s (vm v)) c → t ≤ p.horizon → has_come n t c ≡ false) → (c : Choice) × Contains (s (vm v)) c × (leave_of p v c ≤ x.first) → ((c : Choice) → IsEnd (s (vm v)) c → leave_of p v c ≤ x.last) → LetsGo p s v n x
host_goes p s v n x short away early ends =
    lets_go_by p s v n x short away
    (λ t h. (early.0, early.1, too-late (hosted_in (state_of p v) (one n)) t (leave_of p v early.0) x.first early.2 h))
    (λ c t end h. too-late (hosted_in (state_of p v) (one n)) t (leave_of p v c) x.last (ends c end) h)

-- ---- the watch

not-standing : (b : Bool) → b ≡ false → IsTrue b → ⊥
not-standing b e h = false≢true (sym e ∙ h)

stands-same : (a b : Snapshot) (v n : ℕ) → IsSameMachine a b v → stands_on a v n ≡ stands_on b v n
stands-same a b v n same = rw (same.present (one n), same.held Image (one n)) refl

either : (x y : ℕ) → IsTrue (nat_lt 0 x || nat_lt 0 y) → (0 < x) ⊎ (0 < y)
either x y h =
    elim (cases_eq x 0) [
      | inr some ↦ inl (omega (arith, some))
      | inl none ↦ elim (cases_eq y 0) [ inr some ↦ inr (omega (arith, some)) | inl nil ↦ absurd (false≢true (rw (none, nil) at h)) ]
    ]

stands-under : (p : Instance) (a : Snapshot) (v n t : ℕ) (c : Choice) → IsMachineUnder p a v t c → IsTrue (stands_on a v n) → StandsUnder p v n t c
stands-under p a v n t c under h = either (held_at p v Presence (one n) t c) (held_at p v Image (one n) t c) (rw (under.present (one n), under.held Image (one n)) at h)

other-node : (m n : ℕ) → m ≢ n → node m ≢ node n
other-node m n ne e = ne (let same : record { 0 = m } ≡ (let x : NodeId = record { 0 = n } in x) = cc in ap (λ (x : NodeId). x.0) same)

pub all_gone : (p : Instance) (s : Sets) (n : ℕ) (x : Shutdown) → IsShutdown p s n x → ((v : ℕ) → v < machine_count p → LetsGo p s v n x) → IsClean (usable_watch p n) p s
all_gone p s n x down each t l = record { base = base; ends = at }
  where
    -- where it surely is not usable, it surely has shut down
    late : (sure p s t).usable n ≡ false → x.last ≤ t
    late off = elim (cases_lt t x.last) [ inl early ↦ absurd (not-standing _ off (down.may t early)) | inr past ↦ omega (arith, past) ]

    gone : (v : ℕ) → v < machine_count p → x.first ≤ t → IsTrue (stands_on (sure p s t) v n) → ⊥
    gone v low h stands = not-standing _ ((each v low).surely t l h) stands

    base : ¬ IsNeeded p n (sure p s t)
    base need = gone need.0 need.1 (omega (arith, late need.2.unusable, down.order)) need.2.stands

    at : (e : Element) (c : Choice) → IsElement p e → IsEnd (s e) c → ¬ IsNeeded p n (sure p (setting e c s) t)
    at (Vm v) c h end need =
        let off = late (sym ((setting_sets p s (vm v.0) c t).other_nodes n (λ e. cc)).usable ∙ need.2.unusable) in
        elim (cases_eq need.0 v.0) [
          | inl same ↦
              (each v.0 h).ends c t end l off
              (stands-under p (sure p (setting (vm v.0) c s) t) v.0 n t c ((setting_sets p s (vm v.0) c t).set_machine v.0 refl)
              (rw same at need.2.stands))
          | inr ne ↦
              gone need.0 need.1 (omega (arith, off, down.order))
              (sym (stands-same (sure p (setting (vm v.0) c s) t) (sure p s t) need.0 n ((setting_sets p s (vm v.0) c t).other_machines need.0 (other-vm need.0 v.0 ne))) ∙ need.2.stands)
        ]
    at (TheNode m) c h end need =
        let there : IsTrue (stands_on (sure p s t) need.0 n) = sym (stands-same (sure p (setting (node m.0) c s) t) (sure p s t) need.0 n ((setting_sets p s (node m.0) c t).other_machines need.0 (λ e. cc))) ∙ need.2.stands in
        elim (cases_eq n m.0) [
          | inl same ↦
              elim (cases_lt t x.first) [
                | inl early ↦
                    not-standing _
                    (sym ((setting_sets p s (node m.0) c t).set_node n (ap (λ (k : ℕ). node k) (sym same))).usable ∙ need.2.unusable)
                    (down.ends c t (rw same end) early)
                | inr past ↦ gone need.0 need.1 (omega (arith, past)) there
              ]
          | inr ne ↦
              gone need.0 need.1
              (omega (arith, late (sym ((setting_sets p s (node m.0) c t).other_nodes n (other-node n m.0 ne)).usable ∙ need.2.unusable), down.order))
              there
        ]
