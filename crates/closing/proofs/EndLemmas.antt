-- Ends of choices by rows, and the instants at which they start.
use Rattle.closing.proofs.Prelude.{slice_index_or, ◌≡◌, ◌⊎◌, inl, inr, ℕ, zero, suc, ◌+◌, ◌<◌, ◌≤◌, Bool, true, false, ◌&&◌, nat_le, Some, List, [], ◌∷◌, length, refl, ap, arith, Contains, filter, cases_lt, false≢true, nat_tests, get_or_past, Act, AreOf, AreRowsPast, At, Choice, choices, Climbs, DomainView, Element, FailAtEnds, FailAtRows, From, goes_in, in_part, Instance, is_among, IsElement, IsEnd, IsEndThat, IsMember, IsRowEndThat, IsSized, IsTurn, machine_count, no_row, node, Node as TheNode, node_count, NodeId, Nowhere, one, only_of, PassOnlyAt, RegionView, Row, row_at, same_place, sets, start_of, StartsPast, staying, Vm, vm, VmId, Idle, Place, contains_filter, filter_contains, end_is_choice, ends_of_rows}

-- ---- tests at ends

fails-at_rows : (P : Choice → Type 0) (d : DomainView) → Climbs 0 d.rows → FailAtRows P d.idle d.rows (length d.rows) → FailAtEnds P (choices d)
fails-at_rows P d climbs f = record { ends = at }
  where
    by : (q : Place) (s i : ℕ) → i < length d.rows → (row_at d i).place ≡ q → ((row_at d i).lo ≡ s) ⊎ ((row_at d i).hi ≡ s) → ¬ P (Act q s)
    by q s i h e (inl low) = rw (← e, ← low) (f.at_row i h).lo
    by q s i h e (inr high) = rw (← e, ← high) (f.at_row i h).hi

    at : (c : Choice) → IsEnd (choices d) c → ¬ P c
    at Idle end = f.at_idle ((ends_of_rows d climbs Idle).0 end)
    at (Act q s) end = let r = (ends_of_rows d climbs (Act q s)).0 end in by q s r.0 r.1 r.2 r.3

pub fails_of_rows : (P : Choice → Type 0) (d : DomainView) (idle : Bool) (rows : List Row) → idle ≡ d.idle → rows ≡ d.rows → Climbs 0 rows → FailAtRows P idle rows (length rows) → FailAtEnds P (choices d)
fails_of_rows P d idle rows same_idle same climbs h = fails-at_rows P d (rw same at climbs) (rw (same_idle, same) at h)

end-of_row : (P : Choice → Type 0) (d : DomainView) (i : ℕ) (c : Choice) → Climbs 0 d.rows → i < length d.rows → IsRowEndThat P (row_at d i) c → IsEndThat P (choices d) c
end-of_row P d i c climbs h end = record { is_end = at c end.is_end; passes = end.passes }
  where
    at : (c : Choice) → (c ≡ Act (row_at d i).place (row_at d i).lo) ⊎ (c ≡ Act (row_at d i).place (row_at d i).hi) → IsEnd (choices d) c
    at c (inl e) = rw e ((ends_of_rows d climbs (Act (row_at d i).place (row_at d i).lo)).1 (i, h, refl, inl refl))
    at c (inr e) = rw e ((ends_of_rows d climbs (Act (row_at d i).place (row_at d i).hi)).1 (i, h, refl, inr refl))

pub row_is_end : (P : Choice → Type 0) (d : DomainView) (rows : List Row) (i : ℕ) (c : Choice) → rows ≡ d.rows → Climbs 0 rows → i < length rows → IsRowEndThat P (slice_index_or rows i no_row) c → IsEndThat P (choices d) c
row_is_end P d rows i c same climbs h end = end-of_row P d i c (rw same at climbs) (rw same at h) (rw same at end)

pub idle_is_end : (P : Choice → Type 0) (d : DomainView) (rows : List Row) → rows ≡ d.rows → Climbs 0 rows → d.idle ≡ true → P Idle → IsEndThat P (choices d) Idle
idle_is_end P d rows same climbs idle passes = record { is_end = (ends_of_rows d (rw same at climbs) Idle).1 idle; passes = passes }

-- some row's first start is a choice
pub row_choice_at : (d : DomainView) (rows : List Row) (k : ℕ) → rows ≡ d.rows → Climbs 0 rows → k < length rows → Contains (choices d) (Act (slice_index_or rows k no_row).place (slice_index_or rows k no_row).lo)
row_choice_at d rows k same climbs h = rw same (at-row (rw same at climbs) (rw same at h))
  where
    at-row : Climbs 0 d.rows → k < length d.rows → Contains (choices d) (Act (row_at d k).place (row_at d k).lo)
    at-row climbs h = end_is_choice (choices d) (Act (row_at d k).place (row_at d k).lo) ((ends_of_rows d climbs (Act (row_at d k).place (row_at d k).lo)).1 (k, h, refl, inl refl))

-- ---- at one place

abbrev at-place : Place → Choice → Bool
at-place place = in_part (From place 0)

-- whatever its start
at-any : (here : Bool) (s u : ℕ) → (here && nat_le 0 s) ≡ true → (here && nat_le 0 u) ≡ true
at-any here s u h = grind (arith, nat_tests)

kept-end : (place : Place) (cs : List Choice) (c : Choice) → IsEnd cs c → at-place place c ≡ true → IsEnd (filter (at-place place) cs) c
kept-end place cs Idle end here = absurd (false≢true here)
kept-end place cs (Act q s) (there, inl least) here = (contains_filter (at-place place) cs (Act q s) there here, inl (λ u h. least u (filter_contains (at-place place) cs (Act q u) h).0))
kept-end place cs (Act q s) (there, inr most) here = (contains_filter (at-place place) cs (Act q s) there here, inr (λ u h. most u (filter_contains (at-place place) cs (Act q u) h).0))

end-kept : (place : Place) (cs : List Choice) (c : Choice) → IsEnd (filter (at-place place) cs) c → IsEnd cs c
end-kept place cs Idle end = (filter_contains (at-place place) cs Idle end).0
end-kept place cs (Act q s) (there, inl least) = let h = filter_contains (at-place place) cs (Act q s) there in (h.0, inl (λ u x. least u (contains_filter (at-place place) cs (Act q u) x (at-any (same_place q place) s u h.1))))
end-kept place cs (Act q s) (there, inr most) = let h = filter_contains (at-place place) cs (Act q s) there in (h.0, inr (λ u x. most u (contains_filter (at-place place) cs (Act q u) x (at-any (same_place q place) s u h.1))))

pub fails_at_place : (P : Choice → Type 0) (place : Place) (cs : List Choice) → PassOnlyAt place P → FailAtEnds P (filter (in_part (From place 0)) cs) → FailAtEnds P cs
fails_at_place P place cs only fail = record { ends = λ c end. by c end (at-place place c) refl }
  where
    by : (c : Choice) → IsEnd cs c → (b : Bool) → at-place place c ≡ b → ¬ P c
    by c end true here = fail.ends c (kept-end place cs c end here)
    by c end false out = only.elsewhere c out

pub end_at_place : (P : Choice → Type 0) (place : Place) (cs : List Choice) (c : Choice) → IsEndThat P (filter (in_part (From place 0)) cs) c → IsEndThat P cs c
end_at_place P place cs c end = record { is_end = end-kept place cs c end.is_end; passes = end.passes }

-- where a choice is not one at the place of a node, it does not go there
pub goes_elsewhere : (n : NodeId) (c : Choice) → in_part (From (At n) 0) c ≡ false → goes_in c (one n.0) ≡ false
goes_elsewhere n Idle out = refl
goes_elsewhere n (Act Nowhere s) out = refl
goes_elsewhere n (Act (At m) s) out = grind (arith, nat_tests)

-- ---- instants

past_at_rows : (d : DomainView) (a b : ℕ) → Climbs 0 d.rows → AreRowsPast a b (length d.rows) d.rows → StartsPast (choices d) a b
past_at_rows d a b climbs rows = record { past = at }
  where
    at : (c : Choice) (t : ℕ) → IsEnd (choices d) c → start_of c ≡ Some t → a < t → b ≤ t
    at Idle t end starts later = cc
    at (Act q s) t end starts later =
        let same : s ≡ t = cc in
        let r = (ends_of_rows d climbs (Act q s)).0 end in
        elim r.3 [
          | inl low ↦ omega (arith, low, same, later, rows.lo r.0 r.1 (omega (arith, low, same, later)))
          | inr high ↦ omega (arith, high, same, later, rows.hi r.0 r.1 (omega (arith, high, same, later)))
        ]

pub past_of_rows : (d x : DomainView) (rows : List Row) (a b : ℕ) → x ≡ d → rows ≡ x.rows → Climbs 0 rows → AreRowsPast a b (length rows) rows → StartsPast (choices d) a b
past_of_rows d x rows a b is same climbs past = rw is at (past_at_rows x a b (rw same at climbs) (rw same at past))

pub sized_is_of : (p : Instance) (g : RegionView) → IsSized p g → AreOf p (sets g)
sized_is_of p g is (Vm v) =
    elim (cases_lt v.0 (machine_count p)) [
      | inl there ↦ inl there
      | inr past ↦ inr (ap choices (get_or_past g.machines v.0 staying (omega (arith, is.machines, past))))
    ]
sized_is_of p g is (TheNode n) =
    elim (cases_lt n.0 (node_count p)) [
      | inl there ↦ inl there
      | inr past ↦ inr (ap choices (get_or_past g.nodes n.0 staying (omega (arith, is.nodes, past))))
    ]

-- who can only stay starts at no instant
staying-never : (c : Choice) (t : ℕ) → Contains (Idle ∷ []) c → start_of c ≡ Some t → ⊥
staying-never Idle t h starts = cc
staying-never (Act q s) t (zero, h, e) starts = cc
staying-never (Act q s) t (suc k, h, e) starts = absurd (omega (arith, h))

pub no_change_instant : (p : Instance) (g : RegionView) (after next : ℕ) → IsSized p g → (after < p.horizon → next ≤ p.horizon) → next ≤ p.horizon + 1 → ((v : ℕ) → v < machine_count p → StartsPast (sets g (vm v)) after next) → ((n : ℕ) → n < node_count p → StartsPast (sets g (node n)) after next) → (t : ℕ) → after < t → t < next → ¬ IsTurn p (sets g) t
no_change_instant p g after next is last most machines nodes t later sooner (inl first) = omega (arith, first, later)
no_change_instant p g after next is last most machines nodes t later sooner (inr (inl e)) = let le = last (omega (arith, e, later)) in omega (arith, le, e, sooner)
no_change_instant p g after next is last most machines nodes t later sooner (inr (inr x)) = at x.element x.choice x.is_end x.starts (sized_is_of p g is x.element)
  where
    at : (e : Element) (c : Choice) → IsEnd (sets g e) c → start_of c ≡ Some t → IsElement p e ⊎ (sets g e ≡ Idle ∷ []) → ⊥
    at (Vm v) c end starts (inl there) = let le = (machines v.0 there).past c t end starts later in omega (arith, le, sooner)
    at (TheNode n) c end starts (inl there) = let le = (nodes n.0 there).past c t end starts later in omega (arith, le, sooner)
    at e c end starts (inr idle) = staying-never c t (rw idle at (end_is_choice (sets g e) c end)) starts

-- of the machines of a list alone
pub no_change_instant_of : (p : Instance) (g : RegionView) (vs : List VmId) (after next : ℕ) → (after < p.horizon → next ≤ p.horizon) → next ≤ p.horizon + 1 → ((v : ℕ) → IsMember vs v → StartsPast (sets g (vm v)) after next) → (t : ℕ) → after < t → t < next → ¬ IsTurn p (only_of vs (sets g)) t
no_change_instant_of p g vs after next last most machines t later sooner (inl first) = omega (arith, first, later)
no_change_instant_of p g vs after next last most machines t later sooner (inr (inl e)) = let le = last (omega (arith, e, later)) in omega (arith, le, e, sooner)
no_change_instant_of p g vs after next last most machines t later sooner (inr (inr x)) = at x.element x.choice x.is_end x.starts (is_among vs x.element) refl
  where
    at : (e : Element) (c : Choice) → IsEnd (only_of vs (sets g) e) c → start_of c ≡ Some t → (b : Bool) → is_among vs e ≡ b → ⊥
    at (Vm v) c end starts true seen = let le = (machines v.0 seen).past c t (rw seen at end) starts later in omega (arith, le, sooner)
    at (TheNode n) c end starts true seen = false≢true seen
    at e c end starts false out = staying-never c t (end_is_choice (Idle ∷ []) c (rw out at end)) starts
