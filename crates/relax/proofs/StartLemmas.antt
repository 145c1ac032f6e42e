-- The legal choices of an element, place by place, and a region of them.
use Rattle.relax.proofs.Prelude.{IfSome, map, slice_index_or, ◌≡◌, inl, inr, ℕ, zero, suc, ◌+◌, ◌-◌, ◌<◌, Bool, true, false, cond, nat_le, Option, Some, None, List, [], ◌∷◌, ◌++◌, length, append-nil, refl, sym, ap, ◌∙◌, arith, All, filter, flat_map, range_with_len, cases_lt, lt-ltb, le-ltb, nat_tests, get_or_past, flat_map-append, All-nil, All-push, All-weaker, filter-append, map-range_with_len_more, Act, action_duration, AreLegal, At, Choice, choices, ComesAfter, DomainView, duration_of, Element, end_of, Instance, is_element, is_legal, IsElement, IsRowAt, Kind, kind_duration, kind_of, machine_count, node, Node as TheNode, node_count, Nowhere, option_choices, place_index, RegionView, Row, row_choices, rows_of, Sets, sets, start_sets, starts_from, staying, Vm, vm, Idle, Place, start_is_legal}

-- ---- the legal starts at a place

-- of the starts at a place, those that end by an instant, where all last so long
some-starts : (test : Choice → Bool) (place : Place) (d h from count : ℕ) → ((s : ℕ) → test (Act place s) ≡ nat_le (s + d) h) → from + count ≡ h + 1 → filter test (starts_from place from count) ≡ starts_from place from ((h + 1) - (from + d))
some-starts test place d h from zero t e = let none : (h + 1) - (from + d) ≡ 0 = omega arith in rw none refl
some-starts test place d h from (suc count) t e =
    elim (cases_lt h (from + d)) [
      | inl late ↦
          let gone : test (Act place from) ≡ false = t from ∙ grind (arith, nat_tests) in
          let none : (h + 1) - (from + d) ≡ 0 = omega arith in
          let rest : (h + 1) - ((from + 1) + d) ≡ 0 = omega arith in
          rw (gone, none) (some-starts test place d h (from + 1) count t (omega arith) ∙ ap (starts_from place (from + 1)) rest)
      | inr early ↦
          let kept : test (Act place from) ≡ true = t from ∙ grind (arith, nat_tests) in
          let more : (h + 1) - (from + d) ≡ suc ((h + 1) - ((from + 1) + d)) = omega arith in
          rw (kept, more) (ap (λ cs. Act place from ∷ cs) (some-starts test place d h (from + 1) count t (omega arith)))
    ]

pub legal_starts : (p : Instance) (e : Element) (place : Place) (kind : Kind) → kind_of p e place ≡ Some kind → filter (is_legal p e) (starts_from place 0 (p.horizon + 1)) ≡ starts_from place 0 ((p.horizon + 1) - duration_of p e kind)
unfolding is_legal end_of action_duration kind_duration
legal_starts p e place kind h =
    some-starts (is_legal p e) place (duration_of p e kind) p.horizon 0 (p.horizon + 1) (λ s. rw h refl) (omega arith) ∙ ap (λ n. starts_from place 0 ((p.horizon + 1) - n)) (omega arith)

no-starts : (test : Choice → Bool) (place : Place) (from count : ℕ) → ((s : ℕ) → test (Act place s) ≡ false) → filter test (starts_from place from count) ≡ []
no-starts test place from zero t = refl
no-starts test place from (suc count) t = rw (t from) (no-starts test place (from + 1) count t)

pub no_legal_starts : (p : Instance) (e : Element) (place : Place) → kind_of p e place ≡ None → filter (is_legal p e) (starts_from place 0 (p.horizon + 1)) ≡ []
unfolding is_legal
no_legal_starts p e place h = no-starts (is_legal p e) place 0 (p.horizon + 1) (λ s. rw h refl)

-- ---- place by place

-- the legal choices at no node and at the first so many nodes
abbrev pub legal_upto : Instance → Element → ℕ → List Choice
legal_upto p e n =
    filter (is_legal p e) (flat_map (λ place. starts_from place 0 (p.horizon + 1)) (Nowhere ∷ map (λ k. At (record { 0 = k })) (range_with_len 0 n)))

-- the domain holds these, and Idle where it is legal
pub record HoldsUpto (p : Instance) (e : Element) (n : ℕ) (d : DomainView) : Type 0 where
  pub idle : d.idle ≡ is_legal p e Idle
  pub rows : flat_map row_choices d.rows ≡ legal_upto p e n
  pub below : All (λ r. place_index r.place < n + 1) d.rows

one-row : (o : Option Row) → flat_map row_choices (rows_of o) ≡ option_choices o
one-row None = refl
one-row (Some r) = append-nil (row_choices r)

legal-more : (p : Instance) (e : Element) (n : ℕ) → legal_upto p e (n + 1) ≡ legal_upto p e n ++ filter (is_legal p e) (starts_from (At (record { 0 = n })) 0 (p.horizon + 1))
legal-more p e n =
    let starts : Place → List Choice = λ place. starts_from place 0 (p.horizon + 1) in
    let at : ℕ → Place = λ k. At (record { 0 = k }) in
    rw (map-range_with_len_more at 0 n n (omega arith))
    (ap (filter (is_legal p e)) (flat_map-append starts (Nowhere ∷ map at (range_with_len 0 n)) (at n ∷ []))
    ∙ filter-append (is_legal p e) (flat_map starts (Nowhere ∷ map at (range_with_len 0 n))) (flat_map starts (at n ∷ []))
    ∙ ap (λ cs. legal_upto p e n ++ filter (is_legal p e) cs) (append-nil (starts (at n))))

-- one node more
pub more_held : (p : Instance) (e : Element) (n : ℕ) (d old : DomainView) (o : Option Row) → HoldsUpto p e n old → d.idle ≡ old.idle → d.rows ≡ old.rows ++ rows_of o → option_choices o ≡ filter (is_legal p e) (starts_from (At (record { 0 = n })) 0 (p.horizon + 1)) → IfSome o (IsRowAt (At (record { 0 = n }))) → HoldsUpto p e (n + 1) d
more_held p e n d old o held same added is at = record {
  idle = same ∙ held.idle;
  rows = rw (added, legal-more p e n, ← is, ← held.rows) (flat_map-append row_choices old.rows (rows_of o) ∙ ap (λ cs. flat_map row_choices old.rows ++ cs) (one-row o));
  below = rw added (by o at);
}
  where
    wider : All (λ r. place_index r.place < (n + 1) + 1) old.rows
    wider = All-weaker (λ r. place_index r.place < n + 1) (λ r. place_index r.place < (n + 1) + 1) (λ r l. omega arith) old.rows held.below

    by : (o : Option Row) → IfSome o (IsRowAt (At (record { 0 = n }))) → All (λ r. place_index r.place < (n + 1) + 1) (old.rows ++ rows_of o)
    by None at = rw (append-nil old.rows) wider
    by (Some r) at =
        let here : place_index r.place ≡ n + 1 = ap place_index at.at in
        All-push (λ r. place_index r.place < (n + 1) + 1) old.rows r wider (omega arith)

is-element : (p : Instance) (e : Element) → IsElement p e → is_element p e ≡ true
is-element p (Vm v) h = lt-ltb v.0 (machine_count p) h
is-element p (TheNode n) h = lt-ltb n.0 (node_count p) h

-- with all nodes these are the legal choices
pub all_held : (p : Instance) (e : Element) (d : DomainView) → IsElement p e → HoldsUpto p e (node_count p) d → choices d ≡ start_sets p e
unfolding start_sets
all_held p e d there held = rw (is-element p e there, held.idle, held.rows) (by (is_legal p e Idle))
  where
    by : (b : Bool) → cond b (Idle ∷ []) [] ++ legal_upto p e (node_count p) ≡ cond b (Idle ∷ legal_upto p e (node_count p)) (legal_upto p e (node_count p))
    by true = refl
    by false = refl

-- ---- the region

-- what the domains of the elements are, the sets of the region are
pub start_of_domains : (p : Instance) (g : RegionView) → length g.machines ≡ machine_count p → length g.nodes ≡ node_count p → ((v : ℕ) → v < machine_count p → choices (slice_index_or g.machines v staying) ≡ start_sets p (vm v)) → ((n : ℕ) → n < node_count p → choices (slice_index_or g.nodes n staying) ≡ start_sets p (node n)) → (e : Element) → sets g e ≡ start_sets p e
unfolding start_sets
start_of_domains p g m n machines nodes (Vm v) =
    elim (cases_lt v.0 (machine_count p)) [
      | inl there ↦ machines v.0 there
      | inr past ↦ rw (get_or_past g.machines v.0 staying (omega (arith, m)), le-ltb v.0 (machine_count p) past) refl
    ]
start_of_domains p g m n machines nodes (TheNode k) =
    elim (cases_lt k.0 (node_count p)) [
      | inl there ↦ nodes k.0 there
      | inr past ↦ rw (get_or_past g.nodes k.0 staying (omega (arith, n)), le-ltb k.0 (node_count p) past) refl
    ]

-- in which each choice is legal
pub start_legal : (p : Instance) (s : Sets) → ((e : Element) → s e ≡ start_sets p e) → AreLegal p s
start_legal p s is e there c h = (start_is_legal p e there c).0 (rw is at h)
