-- Who may wait until the last instant.
use Rattle.load_bounds.proofs.Prelude.{◌≡◌, ℕ, zero, suc, ◌+◌, ◌≤◌, Bool, true, false, nat_lt, List, [], ◌∷◌, refl, arith, flat_map, list_any, nat_tests, list_any-append, choices, DomainView, may, Row, row_choices, starts_from, waits, Place}

module _ (last to : ℕ) (over : nat_lt to last ≡ false) where
  none-waits : (place : Place) (from count : ℕ) → list_any (waits last to) (starts_from place from count) ≡ false
  none-waits place from zero = refl
  none-waits place from (suc count) = rw (over, none-waits place (from + 1) count) refl

  rows-wait : (rows : List Row) → list_any (waits last to) (flat_map row_choices rows) ≡ false
  rows-wait [] = refl
  rows-wait (r ∷ rs) = rw (list_any-append (waits last to) (row_choices r) (flat_map row_choices rs), none-waits r.place r.lo _, rows-wait rs) refl

  by-idle : (d : DomainView) (b : Bool) → d.idle ≡ b → b ≡ may (waits last to) (choices d)
  by-idle d true is = rw is refl
  by-idle d false is = rw (is, rows-wait d.rows) refl

-- those whose Idle is a choice
pub waits_idle : (d : DomainView) (last to : ℕ) → last ≤ to → d.idle ≡ may (waits last to) (choices d)
waits_idle d last to l = let over : nat_lt to last ≡ false = grind (arith, nat_tests, l) in by-idle last to over d d.idle refl
