-- What one machine holds on a set of nodes during a period.
use Rattle.rule_setload.proofs.Prelude.{◌≡◌, ◌⊎◌, ℕ, ◌+◌, ◌<◌, ◌≤◌, Option, Some, nat_le, true, nat_lt, List, [], ◌∷◌, length, slice_index_or, refl, arith, inl, inr, Contains, contains_here, least_of_each, end_is_choice, ends_of_rows, nat_tests, flat_map}
use Rattle.rule_setload.specs.Prelude.{Act, Arrival, Choice, choices, Climbs, comes_by, DomainView, gain, goes_in, has_started, held_at, HoldsLeast, HoldsMost, Idle, if_so, Instance, IsInstance, IsShare, IsStanding, kept_use, leave_of, no_row, node_count, Nodes, Period, Row, row_choices, Sets, Standing, stay_of, sure, unit_of, vm, Weight}
use Rattle.rule_setload.proofs.AmountLemmas.{held_ever, held_parts, so_most}
use Rattle.rule_setload.proofs.HolderLemmas.{at_node, one_self}

-- what has come by an instant has come by a later one
pub came_by : (a : Arrival) (o : Option Arrival) (from t : ℕ) → o ≡ Some a → a.last ≤ from → from ≤ t → comes_by a.node.0 t o ≡ true
came_by a o from t is l u =
    let by : nat_le a.last t ≡ true = grind (arith, nat_tests, l, u) in
    rw (is, one_self a.node.0, by) refl

module _ (p : Instance) (sound : IsInstance p) (w : Weight) (set : Nodes) (v : ℕ) (x : Period) (within : x.to ≤ p.horizon) where
  -- ---- one choice

  pub is_share : (c : Choice) (stays kept brought m : ℕ) → stays ≡ stay_of p w set v → ((t : ℕ) → x.from ≤ t → if_so (nat_lt t (leave_of p v c)) stays ≤ kept) → ((t : ℕ) → t ≤ x.to → if_so (goes_in c set) (if_so (has_started t c) (unit_of p v w)) ≤ brought) → kept + brought ≤ m → IsShare p w set v c x m
  is_share c stays kept brought m is had come fits = record {
    each = λ t h. let old : if_so (nat_lt t (leave_of p v c)) (stay_of p w set v) ≤ kept = rw is at (had t h.0) in omega (arith, held_parts p sound w set v t c (omega (arith, h.1, within)), old, come t h.1, fits);
  }

  -- where all that it has counts
  pub ever_share : (c : Choice) (stays brought m : ℕ) → stays ≡ stay_of p w set v → ((t : ℕ) → t ≤ x.to → if_so (goes_in c set) (if_so (has_started t c) (unit_of p v w)) ≤ brought) → stays + brought ≤ m → IsShare p w set v c x m
  ever_share c stays brought m is come fits = is_share c stays stays brought m is (λ t l. so_most p sound w set (nat_lt t (leave_of p v c)) stays) come fits

  -- ---- at the most

  module _ (s : Sets) where
    pub by_share : (c : Choice) (m : ℕ) → Contains (s (vm v)) c → IsShare p w set v c x m → HoldsMost p s w set v x m
    unfolding sure
    by_share c m there share = record { each = λ t h. omega (arith, least_of_each (held_at p v w set t) (s (vm v)) c there, share.each t h) }

    pub most_idle : (d : DomainView) (stays : ℕ) → s (vm v) ≡ choices d → d.idle ≡ true → stays ≡ stay_of p w set v → HoldsMost p s w set v x stays
    most_idle d stays seen idle is = by_share Idle stays (rw (seen, idle) (contains_here Idle (flat_map row_choices d.rows))) (ever_share Idle stays 0 stays is (λ t l. omega arith) (omega arith))

    pub most_ever : (m : ℕ) → stay_of p w set v + unit_of p v w ≤ m → HoldsMost p s w set v x m
    unfolding sure
    most_ever m l = by (s (vm v)) refl
      where
        by : (cs : List Choice) → s (vm v) ≡ cs → HoldsMost p s w set v x m
        by [] none = record { each = λ t h. rw none (omega arith) }
        by (c ∷ cs) some = by_share c m (rw some (contains_here c cs)) (record { each = λ t h. omega (arith, held_ever p sound w set v t c (omega (arith, h.1, within)), l) })

    -- by the ends of a row
    module _ (d : DomainView) (i m : ℕ) (row : Row) (c : Choice) (seen : s (vm v) ≡ choices d) (climbs : Climbs 0 d.rows) (low : i < length d.rows) (is : row ≡ slice_index_or d.rows i no_row) where
      end-of : (u : ℕ) → ((slice_index_or d.rows i no_row).lo ≡ u) ⊎ ((slice_index_or d.rows i no_row).hi ≡ u) → Contains (s (vm v)) (Act (slice_index_or d.rows i no_row).place u)
      end-of u is = rw seen (end_is_choice (choices d) (Act (slice_index_or d.rows i no_row).place u) ((ends_of_rows d climbs (Act (slice_index_or d.rows i no_row).place u)).1 (i, low, refl, is)))

      pub by_first : c ≡ Act row.place row.lo → IsShare p w set v c x m → HoldsMost p s w set v x m
      by_first acts share = by_share c m (rw (acts, is) (end-of (slice_index_or d.rows i no_row).lo (inl refl))) share

      pub by_last : c ≡ Act row.place row.hi → IsShare p w set v c x m → HoldsMost p s w set v x m
      by_last acts share = by_share c m (rw (acts, is) (end-of (slice_index_or d.rows i no_row).hi (inr refl))) share

  -- ---- surely

  module _ (s : Sets) (k : Standing) (is : IsStanding p v (s (vm v)) k) (n : ℕ) (low : n < node_count p) (on : set n ≡ true) where
    pub surely_came : ((t : ℕ) → x.from ≤ t → comes_by n t k.come ≡ true) → HoldsLeast p s w set v x (gain p v w n)
    unfolding sure
    surely_came come = record { each = λ t h. omega (arith, at_node p sound w set v (s (vm v)) k n t low on (omega (arith, h.1, within)) is, got t (come t h.0)) }
      where
        got : (t : ℕ) → comes_by n t k.come ≡ true → gain p v w n ≤ kept_use p v w n t k
        got t e = rw e (omega arith)
