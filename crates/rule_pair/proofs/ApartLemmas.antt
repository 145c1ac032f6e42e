-- Machines that are told to keep apart at all instants.
use Rattle.rule_pair.proofs.Prelude.{if◌then◌else◌, IsTrue, slice_index_or, ◌≡◌, ◌≢◌, ◌⊎◌, inl, inr, ℕ, ◌+◌, ◌<◌, ◌≤◌, Bool, true, false, ◌&&◌, ◌||◌, ◌==◌, max, nat_lt, List, [], ◌∷◌, length, get_or, Some, ap, Contains, eq-eqb, nat_le, refl, sym, ◌∙◌, arith, and_parts, cases_eq, eqb-true, false≢true, nat_tests, get_or_default, part_listed, sound_form, surely_each, end_is_choice, ends_of_rows, some_end, present_law, and-true, arrival, arrived, numbers, of_one, other-vm, own_present, same_present, vm_or}
use Rattle.machine_bounds.proofs.Public.{row_order}
use Rattle.rule_pair.specs.Prelude.{Act, Apart, are_below, AreClear, AreLonger, AreOrdered, Arrival, At, base, Between, Choice, choices, class_of, Clear, Climbs, comes_by, ComesLate, Constraint, DomainView, Doubtful, Each, Element, form_of, FromOthers, gain, has_come, have_come, HasPosts, hosted_in, Idle, Instance, inventory_of, is_continuous, is_member, is_rule, IsAt, IsClean, IsEnd, IsInPart, IsLate, IsMember, IsStanding, IsTold, KeepsClear, KeepsOff, kept_use, least, leave_of, Longest, machine_count, never, no_row, Nowhere, of_kind, OnClear, one, Pair, Posts, Presence, present_at, reason_kind, Row, row_at, rule_watch, Seen, separated, Separation, Sets, setting, Standing, StandsWithin, state_of, sure, told_until, Unknown, vm, VmId}
use Rattle.cluster.specs.declared.choices.Place.{Place}

-- ---- one choice

-- who is hosted elsewhere, or has left its host, is on a node only where it has come there
not-there : (p : Instance) (v n t : ℕ) (c : Choice) → t < never → (hosted_in (state_of p v) (one n) && nat_lt t (leave_of p v c)) ≡ false → has_come n t c ≡ false → present_at p v (one n) t c ≡ false
not-there p v n t c h host come =
    sym (and-true (present_at p v (one n) t c))
    ∙ present_law p v n t (c ∷ []) (numbers p v c) h (λ e. cc) (of_one p v c)
    ∙ nothing (arrived n t c ∙ come)
  where
    nothing : comes_by n t (arrival c) ≡ false → nat_lt 0 (kept_use p v Presence n t (numbers p v c)) ≡ false
    nothing e = rw (host, e) refl

-- who has left by an instant is not on its host later
not-hosted : (b : Bool) (t leave : ℕ) → (IsTrue b → leave ≤ t) → (b && nat_lt t leave) ≡ false
not-hosted false t leave h = refl
not-hosted true t leave h = let out = h refl in grind (arith, nat_tests, out)

-- ---- posts

-- what is surely there is by one of the two numbers
by-number : (a b : Bool) (x y : ℕ) → IsTrue (nat_lt 0 ((if a then x else 0) + (if b then y else 0))) → IsTrue a ⊎ IsTrue b
by-number true b x y h = inl refl
by-number false true x y h = inr refl
by-number false false x y h = absurd (false≢true h)

stays-on : (b : Bool) (t x y : ℕ) → x ≤ y → IsTrue (b && nat_lt t x) → IsTrue (b && nat_lt t y)
stays-on true t x y l h = grind (arith, nat_tests, h, l)
stays-on false t x y l h = h

pub has_posts : (p : Instance) (s : Sets) (from v : ℕ) (k : Standing) (x : Posts) → p.horizon < never → StandsWithin p v (s (vm v)) k → ((n t : ℕ) → from ≤ t → t ≤ p.horizon → IsTrue (hosted_in (state_of p v) (one n) && nat_lt t k.leave) → IsAt x.host n t) → ((n t : ℕ) → t ≤ p.horizon → IsTrue (comes_by n t k.come) → IsAt x.come n t) → HasPosts p s from v x
unfolding sure
has_posts p s from v k x short is host come =
    let own : Standing = record { leave = least (leave_of p v) (s (vm v)); come = k.come } in
    let exact : IsStanding p v (s (vm v)) own = record { leave = refl; come = is.come } in
    record {
      each = λ some n t f l there.
          elim (by-number (hosted_in (state_of p v) (one n) && nat_lt t own.leave) (comes_by n t k.come) (base p v Presence) (gain p v Presence n) (sym (present_law p v n t (s (vm v)) own (omega (arith, l, short)) some exact) ∙ there)) [
            | inl a ↦ inl (host n t f l (stays-on (hosted_in (state_of p v) (one n)) t own.leave k.leave is.leave a))
            | inr b ↦ inr (come n t l b)
          ];
    }

-- ---- who keeps off

-- a table in which more was told
pub record AreTold (old new : List Longest) (more : Type 0) : Type 0 where
  pub ordered : AreOrdered new
  pub longer : AreLonger old new
  pub told : more

-- told stays, of which none is told to be shorter later on
pub told_longer : (p : Instance) (s : Sets) (xs ys : List Longest) (from part v : ℕ) → AreLonger xs ys → IsTold p s xs from part v → IsTold p s ys from part v
told_longer p s xs ys from part v longer told = record {
  each = λ some q n t ne f l there. omega (arith, told.each some q n t ne f l there, longer.each q n);
}

pub longer_both : (xs ys zs : List Longest) → AreLonger xs ys → AreLonger ys zs → AreLonger xs zs
longer_both xs ys zs first second = record { each = λ q n. omega (arith, first.each q n, second.each q n) }

-- where both posts of a machine are told, the machine is
pub told_posts : (p : Instance) (s : Sets) (from v part : ℕ) (x : Posts) (ys zs : List Longest) → HasPosts p s from v x → AreLonger ys zs → ((n t q : ℕ) → IsAt x.host n t → q ≢ part → t < told_until ys q n) → ((n t q : ℕ) → IsAt x.come n t → q ≢ part → t < told_until zs q n) → IsTold p s zs from part v
told_posts p s from v part x ys zs posts longer host come = record {
  each = λ some q n t ne f l there. elim (posts.each some n t f l there) [ inl a ↦ omega (arith, host n t q a ne, longer.each q n) | inr b ↦ come n t q b ne ];
}

-- an action that starts late has not come where a stay goes on
late-come : (xs : List Longest) (part from n t : ℕ) (q : Place) (low u : ℕ) → IsLate xs part from q low → low ≤ u → from ≤ t → t < told_until xs part n → has_come n t (Act q u) ≡ false
late-come xs part from n t Nowhere low u late l f before = refl
late-come xs part from n t (At m) low u late l f before = by (has_come n t (Act (At m) u)) refl
  where
    by : (b : Bool) → has_come n t (Act (At m) u) ≡ b → b ≡ false
    by false e = refl
    by true e =
        let parts = and_parts (one n m.0) _ e in
        let same : m.0 ≡ n = eqb-true m.0 n parts.0 in
        let early : u ≤ t = grind (arith, nat_tests, parts.1) in
        let there : told_until xs part n ≤ max low from = rw same at late in
        absurd (omega (arith, there, early, l, f, before))

-- where stays at the host end by an instant, or the machine has left by then, it has left while another one stays
pub host_late : (p : Instance) (xs : List Longest) (part from w : ℕ) (cs : List Choice) → ((n : ℕ) → IsTrue (hosted_in (state_of p w) (one n)) → told_until xs part n ≤ from) → (n t : ℕ) (c : Choice) → from ≤ t → t < told_until xs part n → IsTrue (hosted_in (state_of p w) (one n)) → IsEnd cs c → leave_of p w c ≤ t
host_late p xs part from w cs late n t c f before there end = absurd (omega (arith, late n there, f, before))

pub host_left : (p : Instance) (xs : List Longest) (part from w : ℕ) (cs : List Choice) → ((c : Choice) → IsEnd cs c → leave_of p w c ≤ from) → (n t : ℕ) (c : Choice) → from ≤ t → t < told_until xs part n → IsTrue (hosted_in (state_of p w) (one n)) → IsEnd cs c → leave_of p w c ≤ t
host_left p xs part from w cs left n t c f before there end = omega (arith, left c end, f)

pub comes_late : (xs : List Longest) (part from : ℕ) (k : Standing) (a : Arrival) → k.come ≡ Some a → told_until xs part a.node.0 ≤ from → ComesLate xs part from k
comes_late xs part from k a is ended = record { arrival = a; come = is; ended = ended }

-- of choices that have all come to a node by an instant each has
each-come : (n t : ℕ) (cs : List Choice) (c : Choice) → have_come n t cs ≡ true → Contains cs c → has_come n t c ≡ true
each-come n t [] c on h = absurd (false≢true on)
each-come n t (d ∷ ds) c on h = surely_each (has_come n t) (d ∷ ds) c h on

-- a choice comes to one node alone
one-node : (m u n t : ℕ) (c : Choice) → has_come m u c ≡ true → has_come n t c ≡ true → m ≡ n
one-node m u n t Idle first second = absurd (false≢true first)
one-node m u n t (Act Nowhere q) first second = absurd (false≢true first)
one-node m u n t (Act (At x) q) first second = sym (eqb-true x.0 m (and_parts (one m x.0) _ first).0) ∙ eqb-true x.0 n (and_parts (one n x.0) _ second).0

-- an arrival has come by its last start
come-last : (a : Arrival) → comes_by a.node.0 a.last (Some a) ≡ true
come-last a = let last : nat_le a.last a.last ≡ true = grind (arith, nat_tests) in rw (eq-eqb a.node.0 a.node.0 refl) last

module _ (p : Instance) (s : Sets) (xs : List Longest) (part from w : ℕ) (short : p.horizon < never) where
  -- under an end that has come to no stay, and has left its host where there is one
  off-end : (n t : ℕ) (c : Choice) → t ≤ p.horizon → (IsTrue (hosted_in (state_of p w) (one n)) → leave_of p w c ≤ t) → has_come n t c ≡ false → present_at p w (one n) t c ≡ false
  off-end n t c l left come = not-there p w n t c (omega (arith, l, short)) (not-hosted (hosted_in (state_of p w) (one n)) t (leave_of p w c) left) come

  pub keeps_off : (d : DomainView) (rows : List Row) → s (vm w) ≡ choices d → choices d ≢ [] → rows ≡ d.rows → Climbs 0 rows → ((n t : ℕ) (c : Choice) → from ≤ t → t < told_until xs part n → IsTrue (hosted_in (state_of p w) (one n)) → IsEnd (choices d) c → leave_of p w c ≤ t) → ((i : ℕ) → i < length rows → IsLate xs part from (slice_index_or rows i no_row).place (slice_index_or rows i no_row).lo) → KeepsOff p s xs part from w
  keeps_off d rows is some same climbs host late = record { some = rw is some; off = λ n t c f l before end. let there : IsEnd (choices d) c = rw is at end in off-end n t c l (λ here. host n t c f before here there) (come n t c f before there) }
    where
      own : Climbs 0 d.rows
      own = rw same at climbs

      by : (n t i u : ℕ) (q : Place) → from ≤ t → t < told_until xs part n → i < length d.rows → (row_at d i).place ≡ q → ((row_at d i).lo ≡ u) ⊎ ((row_at d i).hi ≡ u) → has_come n t (Act q u) ≡ false
      by n t i u q f before low place ends =
          late-come xs part from n t q (row_at d i).lo u (rw place at ((rw same at late) i low)) (elim ends [ inl first ↦ omega (arith, first) | inr last ↦ omega (arith, last, row_order 0 d.rows i own low) ]) f before

      come : (n t : ℕ) (c : Choice) → from ≤ t → t < told_until xs part n → IsEnd (choices d) c → has_come n t c ≡ false
      come n t Idle f before end = refl
      come n t (Act q u) f before end = let r = (ends_of_rows d own (Act q u)).0 end in by n t r.0 u q f before r.1 r.2 r.3

  -- all choices go to one node, at which no stay goes on
  pub keeps_off_there : (cs : List Choice) (k : Standing) → s (vm w) ≡ cs → cs ≢ [] → IsStanding p w (s (vm w)) k → ComesLate xs part from k → ((n t : ℕ) (c : Choice) → from ≤ t → t < told_until xs part n → IsTrue (hosted_in (state_of p w) (one n)) → IsEnd cs c → leave_of p w c ≤ t) → KeepsOff p s xs part from w
  keeps_off_there cs k is some standing late host = record { some = rw is some; off = λ n t c f l before end. let there : IsEnd cs c = rw is at end in off-end n t c l (λ here. host n t c f before here there) (come n t c f before end) }
    where
      all-come : have_come late.arrival.node.0 late.arrival.last (s (vm w)) ≡ true
      all-come = sym (standing.come late.arrival.node.0 late.arrival.last) ∙ (ap (comes_by late.arrival.node.0 late.arrival.last) late.come ∙ come-last late.arrival)

      never-there : (n t : ℕ) (c : Choice) → from ≤ t → t < told_until xs part n → IsEnd (s (vm w)) c → (b : Bool) → has_come n t c ≡ b → b ≡ false
      never-there n t c f before end false e = refl
      never-there n t c f before end true e =
          let here = each-come late.arrival.node.0 late.arrival.last (s (vm w)) c all-come (end_is_choice (s (vm w)) c end) in
          let ended : told_until xs part n ≤ from = rw (one-node late.arrival.node.0 late.arrival.last n t c here e) at late.ended in
          absurd (omega (arith, ended, f, before))

      come : (n t : ℕ) (c : Choice) → from ≤ t → t < told_until xs part n → IsEnd (s (vm w)) c → has_come n t c ≡ false
      come n t c f before end = never-there n t c f before end (has_come n t c) refl

-- one that keeps off what is told of another one keeps clear of it
pub keeps_clear : (p : Instance) (s : Sets) (xs : List Longest) (from i j v w : ℕ) → i ≢ j → s (vm v) ≢ [] → IsTold p s xs from i v → KeepsOff p s xs j from w → KeepsClear p s from v w
keeps_clear p s xs from i j v w ne some told off = record { some = off.some; off = λ n t c f l there end. off.off n t c f l (told.each some j n t (λ e. ne (sym e)) f l there) end }

-- a machine that passes a test and one that does not are of two parts
two-classes : (a b : Bool) → IsTrue a → ¬ IsTrue b → class_of (λ v. a) 0 ≢ class_of (λ v. b) 0
two-classes true true first second = λ e. second refl
two-classes true false first second = λ e. omega (arith, e)
two-classes false b first second = absurd (false≢true first)

-- ---- loops over parts

-- what holds of the machines of the first parts holds of those of one more
pub next_part : (P : ℕ → ℕ → Type 0) (parts : List (List VmId)) (vs given : List VmId) (i : ℕ) → i < length parts → vs ≡ given → given ≡ get_or parts i given → ((k v : ℕ) → k < i → IsInPart parts k v → P k v) → ((v : ℕ) → IsMember vs v → P i v) → (k v : ℕ) → k < i + 1 → IsInPart parts k v → P k v
next_part P parts vs given i low same is before here k v h there =
    elim (cases_eq k i) [
      | inl at ↦ rw at (here v (rw (same ∙ is ∙ get_or_default parts i given [] low) (rw at at there)))
      | inr other ↦ before k v (omega (arith, h, other)) there
    ]

-- and so of those of all
pub each_part : (P : ℕ → ℕ → Type 0) (parts : List (List VmId)) (count : ℕ) → length parts ≤ count → ((k v : ℕ) → k < count → IsInPart parts k v → P k v) → (k v : ℕ) → IsInPart parts k v → P k v
each_part P parts count l each k v there = each k v (omega (arith, part_listed parts k v there, l)) there

module _ (p : Instance) (s : Sets) (from : ℕ) where
  -- ---- two machines

  never-both : (v w n t : ℕ) → from ≤ t → t ≤ p.horizon → KeepsClear p s from v w → IsTrue ((sure p s t).present v (one n)) → IsTrue ((sure p s t).present w (one n)) → ⊥
  unfolding sure
  never-both v w n t f l clear first second =
      let c = some_end (s (vm w)) clear.some in
      false≢true (sym (clear.off n t c.0 f l first c.1) ∙ surely_each (present_at p w (one n) t) (s (vm w)) c.0 (end_is_choice (s (vm w)) c.0 c.1) second)

  -- where one is set to a choice
  never-with : (v w n t : ℕ) (c : Choice) → v ≢ w → from ≤ t → t ≤ p.horizon → KeepsClear p s from v w → IsEnd (s (vm w)) c → IsTrue ((sure p (setting (vm w) c s) t).present v (one n)) → IsTrue ((sure p (setting (vm w) c s) t).present w (one n)) → ⊥
  never-with v w n t c ne f l clear end first second =
      false≢true (sym (clear.off n t c f l (sym (same_present p s (vm w) c v n t (other-vm v w ne)) ∙ first) end) ∙ (sym (own_present p s w n t c) ∙ second))

  meet-never : (v w n t : ℕ) (e : Element) (c : Choice) → v ≢ w → from ≤ t → t ≤ p.horizon → KeepsClear p s from v w → KeepsClear p s from w v → IsEnd (s e) c → IsTrue ((sure p (setting e c s) t).present v (one n)) → IsTrue ((sure p (setting e c s) t).present w (one n)) → ⊥
  meet-never v w n t e c ne f l one_way other_way end first second =
      elim (vm_or e w) [
        | inl same ↦ never-with v w n t c ne f l one_way (rw same at end) (rw same at first) (rw same at second)
        | inr off_w ↦
            elim (vm_or e v) [
              | inl same ↦ never-with w v n t c (λ x. ne (sym x)) f l other_way (rw same at end) (rw same at second) (rw same at first)
              | inr off_v ↦ never-both v w n t f l one_way (sym (same_present p s e c v n t off_v) ∙ first) (sym (same_present p s e c w n t off_w) ∙ second)
            ]
      ]

  -- ---- constraints

  pub each_clear : (vs : List VmId) → ((v w : ℕ) → IsMember vs v → IsMember vs w → v ≢ w → KeepsClear p s from v w) → AreClear p s from (Each vs)
  each_clear vs apart = record { one_way = λ v w a b h ne. apart v w h.0 h.1 ne; other_way = λ v w a b h ne. apart w v h.1 h.0 (λ e. ne (sym e)) }

  pub between_clear : (parts : List (List VmId)) → ((i j v w : ℕ) → i ≢ j → IsInPart parts i v → IsInPart parts j w → KeepsClear p s from v w) → AreClear p s from (Between parts)
  between_clear parts apart = record { one_way = λ v w a b h ne. apart h.0 h.1 v w h.2 h.3 h.4; other_way = λ v w a b h ne. apart h.1 h.0 w v (λ e. h.2 (sym e)) h.4 h.3 }

  pub from_others_clear : (vs : List VmId) → ((v w : ℕ) → v < machine_count p → w < machine_count p → class_of (is_member vs) v ≢ class_of (is_member vs) w → KeepsClear p s from v w) → AreClear p s from (FromOthers vs)
  from_others_clear vs apart = record {
    one_way = λ v w a b h ne. apart v w a b (two-classes (is_member vs v) (is_member vs w) h.0 h.1);
    other_way = λ v w a b h ne. apart w v b a (λ e. two-classes (is_member vs v) (is_member vs w) h.0 h.1 (sym e));
  }

  pub apart_clean : (k : Constraint) (separation : Separation) → ((t : ℕ) → IsTrue (is_continuous k || (t == p.horizon)) → from ≤ t) → form_of k ≡ Apart separation → AreClear p s from separation → IsClean (rule_watch p k) p s
  apart_clean k separation starts is clear t l = record {
    base = λ x.
        let h = of_kind p (sure p s t) Pair k kind x.1 in
        never-both h.0 h.1 h.2 t (starts t x.0) l (clear.one_way h.0 h.1 h.3 h.4 (rw is at h.6.forbidden) h.6.differ) h.6.first h.6.second;
    ends = λ e c there end x.
        let h = of_kind p (sure p (setting e c s) t) Pair k kind x.1 in
        let kept = rw is at h.6.forbidden in
        meet-never h.0 h.1 h.2 t e c h.6.differ (starts t x.0) l (clear.one_way h.0 h.1 h.3 h.4 kept h.6.differ) (clear.other_way h.0 h.1 h.3 h.4 kept h.6.differ) end h.6.first h.6.second;
  }
    where
      kind : reason_kind k ≡ Some Pair
      kind = rw is refl

-- the machines are listed that a constraint without a fault keeps apart
pub apart_listed : (p : Instance) (k : Constraint) (separation : Separation) → form_of k ≡ Apart separation → is_rule (inventory_of p) k ≡ true → are_below (machine_count p) (separated separation) ≡ true
apart_listed p k separation is rule = rw is at (sound_form p k rule).listed

-- ---- what is seen

pub on_clear : (x : Seen) (P Q : Type 0) → (P → Q) → OnClear x P → OnClear x Q
on_clear Clear P Q f h = f h
on_clear (Doubtful d) P Q f h = h
on_clear Unknown P Q f h = h
