-- How many choices a domain has.
use Rattle.std.proofs.Common.{nat_eq, IsTrue, length-append}
use Rattle.base.proofs.Public.{◌≡◌, ℕ, zero, suc, ◌+◌, ◌-◌, ◌≤◌, ◌==◌, Bool, true, false, cond, List, [], ◌∷◌, ◌++◌, refl, ap, ◌∙◌, arith, length, get_or, append-nil, flat_map, nat_tests, Decides-eqb}
use Rattle.domains.specs.Prelude.{choices, Climbs, DomainView, is_one, Place, place_index, Row, row_choices, starts_from}
use Rattle.cluster.specs.declared.choices.Choice.TheVariants.{Idle}
use Rattle.domains.proofs.RowLemmas.{Climbs-at}

length-starts : (p : Place) (from count : ℕ) → length (starts_from p from count) ≡ count
length-starts p from zero = refl
length-starts p from (suc count) = ap suc (length-starts p (from + 1) count)

-- each row has a choice
length-rows : (from : ℕ) (rows : List Row) → Climbs from rows → length rows ≤ length (flat_map row_choices rows)
length-rows from [] c = omega arith
length-rows from (r ∷ rs) c =
    let rest = length-rows (place_index r.place + 1) rs c.2 in
    let some : r.lo ≤ r.hi = c.1 in
    omega (arith, length-append (row_choices r) (flat_map row_choices rs), length-starts r.place r.lo (r.hi + 1 - r.lo))

length-choices : (d : DomainView) → length (choices d) ≡ cond d.idle 1 0 + length (flat_map row_choices d.rows)
length-choices d = length-append (cond d.idle (Idle ∷ []) []) (flat_map row_choices d.rows) ∙ ap (λ n. n + length (flat_map row_choices d.rows)) (idle-length d.idle)
  where
    idle-length : (b : Bool) → length (cond b (Idle ∷ []) []) ≡ cond b 1 0
    idle-length true = refl
    idle-length false = refl

no-rows : (rows : List Row) → length rows ≡ 0 → flat_map row_choices rows ≡ []
no-rows [] e = refl
no-rows (r ∷ rs) e = absurd (omega arith)

-- without Idle a domain is empty exactly where it has no row
pub empty_is : (d : DomainView) (n : ℕ) → Climbs 0 d.rows → d.idle ≡ false → n ≡ length d.rows → (IsTrue (nat_eq n 0) → choices d ≡ []) × (choices d ≡ [] → IsTrue (nat_eq n 0))
empty_is d n c none e = (
  λ t. let zero_rows : n ≡ 0 = (Decides-eqb n 0).0 t in rw (none, no-rows d.rows (omega arith)) refl,
  λ all.
      let some = length-rows 0 d.rows c in
      let size : length (flat_map row_choices d.rows) ≡ 0 = ap length (rw none at all) in
      (Decides-eqb n 0).1 (omega arith),
)

-- with Idle and a row, or with two rows, there is more than one choice
pub not_one : (d : DomainView) → Climbs 0 d.rows → 2 ≤ cond d.idle 1 0 + length d.rows → false ≡ is_one d
not_one d c more =
    let some = length-rows 0 d.rows c in
    let many : 2 ≤ length (choices d) = omega (arith, length-choices d) in
    grind (arith, nat_tests)

-- one row without Idle is one choice where its ends are the same
pub row_one : (d : DomainView) (e : Row) → Climbs 0 d.rows → length d.rows ≡ 1 → d.idle ≡ false → nat_eq (get_or d.rows 0 e).lo (get_or d.rows 0 e).hi ≡ is_one d
row_one d e c h none =
    let row = Climbs-at 0 d.rows 0 e c (omega arith) in
    let le : (get_or d.rows 0 e).lo ≤ (get_or d.rows 0 e).hi = row.1 in
    let zero_idle : ◌≡◌ {A = ℕ} (cond d.idle 1 0) 0 = rw none refl in
    let size : length (choices d) ≡ (get_or d.rows 0 e).hi + 1 - (get_or d.rows 0 e).lo = omega (arith, length-choices d, one d.rows h) in
    grind (arith, nat_tests)
  where
    one : (rows : List Row) → length rows ≡ 1 → length (flat_map row_choices rows) ≡ (get_or rows 0 e).hi + 1 - (get_or rows 0 e).lo
    one [] l = absurd (omega arith)
    one (r ∷ []) l = ap length (append-nil (row_choices r)) ∙ length-starts r.place r.lo (r.hi + 1 - r.lo)
    one (r ∷ q ∷ rs) l = absurd (omega arith)
