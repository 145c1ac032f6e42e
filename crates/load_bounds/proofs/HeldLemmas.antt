-- What a machine holds on a node under one choice, the least of some choices, and the starts of a row.
use Rattle.load_bounds.proofs.Prelude.{◌≡◌, ◌⊎◌, inl, inr, ℕ, zero, suc, ◌+◌, ◌-◌, ◌<◌, ◌≤◌, Bool, true, false, ◌&&◌, nat_le, nat_lt, cond, Option, Some, None, List, [], ◌∷◌, refl, ap, ◌∙◌, arith, cases_lt, Decides-eqb, nat_tests, Contains, contains_here, kept_law, Act, Arrival, At, base, Choice, comes_by, gain, has_come, held_at, hosted_in, Idle, Instance, IsStanding, least, leave_of, lost_choices, LostRow, never, NodeId, Nowhere, one, Row, starts_from, state_of, surely, Weight}

-- ---- one choice

abbrev pub arrival_of : Choice → Option Arrival
arrival_of Idle = None
arrival_of (Act Nowhere s) = None
arrival_of (Act (At m) s) = Some (record { node = m; last = s })

and-true : (b : Bool) → b ≡ (b && true)
and-true true = refl
and-true false = refl

pub choice_stands : (p : Instance) (v : ℕ) (c : Choice) → IsStanding p v (c ∷ []) (record { leave = leave_of p v c; come = arrival_of c })
choice_stands p v c = record { leave = refl; come = λ n t. come c n t }
  where
    come : (c : Choice) (n t : ℕ) → comes_by n t (arrival_of c) ≡ surely (has_come n t) (c ∷ [])
    come Idle n t = refl
    come (Act Nowhere s) n t = refl
    come (Act (At m) s) n t = and-true (one n m.0 && nat_le s t)

pub come_is : (c : Choice) (n t : ℕ) → comes_by n t (arrival_of c) ≡ has_come n t c
come_is Idle n t = refl
come_is (Act Nowhere s) n t = refl
come_is (Act (At m) s) n t = refl

pub held_parts : (p : Instance) (v : ℕ) (w : Weight) (n t : ℕ) (c : Choice) → t < never → held_at p v w (one n) t c ≡ cond (hosted_in (state_of p v) (one n) && nat_lt t (leave_of p v c)) (base p v w) 0 + cond (has_come n t c) (gain p v w n) 0
held_parts p v w n t c h =
    kept_law p v w n t (c ∷ []) (record { leave = leave_of p v c; come = arrival_of c }) h (choice_stands p v c)
    ∙ ap (λ b. cond (hosted_in (state_of p v) (one n) && nat_lt t (leave_of p v c)) (base p v w) 0 + cond b (gain p v w n) 0) (come_is c n t)

-- ---- the least of some choices

pub cases_in : (c d : Choice) (cs : List Choice) → Contains (c ∷ cs) d → (c ≡ d) ⊎ Contains cs d
cases_in c d cs (zero, h, e) = inl e
cases_in c d cs (suc k, h, e) = inr (k, omega arith, e)

later_in : (c d : Choice) (cs : List Choice) → Contains cs d → Contains (c ∷ cs) d
later_in c d cs (k, h, e) = (suc k, omega arith, e)

-- some choice has it
pub least_attained : (f : Choice → ℕ) (c : Choice) (cs : List Choice) → (d : Choice) × Contains (c ∷ cs) d × (f d ≤ least f (c ∷ cs))
least_attained f c [] = (c, contains_here c [], omega arith)
least_attained f c (d ∷ ds) =
    let rest = least_attained f d ds in
    elim (cases_lt (f c) (least f (d ∷ ds))) [
      | inl l ↦ (c, contains_here c (d ∷ ds), omega (arith, l))
      | inr l ↦ (rest.0, later_in c rest.0 (d ∷ ds) rest.1, omega (arith, l, rest.2))
    ]

-- a number that no choice is below is no more than the least, where there is a choice
pub least_above : (f : Choice → ℕ) (m : ℕ) (cs : List Choice) (c : Choice) → Contains cs c → ((d : Choice) → Contains cs d → m ≤ f d) → m ≤ least f cs
least_above f m [] c h each = absurd (omega (arith, h.1))
least_above f m (x ∷ xs) c h each = let one = least_attained f x xs in let low = each one.0 one.1 in omega (arith, low, one.2)

-- ---- the starts of a row

-- all starts of a row at a node that ends by an instant have come by then
row-came : (n m : NodeId) (last from count : ℕ) (c : Choice) → m.0 ≡ n.0 → from + count ≤ last + 1 → Contains (starts_from (At m) from count) c → has_come n.0 last c ≡ true
row-came n m last from zero c same l h = absurd (omega (arith, h.1))
row-came n m last from (suc count) c same l h = elim (cases_in (Act (At m) from) c (starts_from (At m) (from + 1) count) h) [
  | inl here ↦ rw (← here) (both (omega (arith, l)))
  | inr later ↦ row-came n m last (from + 1) count c same (omega (arith, l)) later
]
  where
    both : from ≤ last → (one n.0 m.0 && nat_le from last) ≡ true
    both u = let there : one n.0 m.0 ≡ true = (Decides-eqb m.0 n.0).1 same in let by : nat_le from last ≡ true = grind (arith, nat_tests, u) in rw (there, by) refl

pub row_came : (n : NodeId) (last : ℕ) (r : Row) (m : NodeId) → r.place ≡ At m → m.0 ≡ n.0 → r.hi ≤ last → (c : Choice) → Contains (lost_choices (LostRow r)) c → has_come n.0 last c ≡ true
row_came n last r m place same l c h = by (cases_lt r.hi r.lo)
  where
    by : (r.hi < r.lo) ⊎ (r.lo ≤ r.hi) → has_come n.0 last c ≡ true
    by (inl none) = let nothing : r.hi + 1 - r.lo ≡ 0 = omega (arith, none) in absurd (omega (arith, (rw (place, nothing) at h).1))
    by (inr some) = row-came n m last r.lo (r.hi + 1 - r.lo) c same (omega (arith, some, l)) (rw place at h)
