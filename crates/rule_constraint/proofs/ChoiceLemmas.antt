-- Where a machine comes to under one choice.
use Rattle.rule_constraint.proofs.Prelude.{◌≡◌, ℕ, ◌≤◌, Bool, true, false, ◌&&◌, List, [], ◌∷◌, Option, Some, None, refl, sym, subst, ◌∙◌, arith, Contains, filter, nat_tests, Act, Arrival, At, Choice, comes_by, has_come, in_part, Instance, IsStanding, leave_of, NodeId, Nowhere, Standing, Upto, Idle, contains_filter}

abbrev pub arrival : Choice → Option Arrival
arrival Idle = None
arrival (Act Nowhere s) = None
arrival (Act (At n) s) = Some (record { node = n; last = s })

abbrev pub numbers : Instance → ℕ → Choice → Standing
numbers p v c = record { leave = leave_of p v c; come = arrival c }

pub and-true : (b : Bool) → (b && true) ≡ b
and-true true = refl
and-true false = refl

pub arrived : (n t : ℕ) (c : Choice) → comes_by n t (arrival c) ≡ has_come n t c
arrived n t Idle = refl
arrived n t (Act Nowhere s) = refl
arrived n t (Act (At m) s) = refl

pub of_one : (p : Instance) (v : ℕ) (c : Choice) → IsStanding p v (c ∷ []) (numbers p v c)
of_one p v c = record { leave = refl; come = λ n t. arrived n t c ∙ sym (and-true (has_come n t c)) }

-- it has not come there where it has no start there that is so early
pub not_come : (m : NodeId) (last t : ℕ) (cs : List Choice) (c : Choice) → filter (in_part (Upto (At m) last)) cs ≡ [] → Contains cs c → t ≤ last → has_come m.0 t c ≡ false
not_come m last t cs Idle none there l = refl
not_come m last t cs (Act Nowhere s) none there l = refl
not_come m last t cs (Act (At k) s) none there l = by (has_come m.0 t (Act (At k) s)) refl
  where
    by : (b : Bool) → has_come m.0 t (Act (At k) s) ≡ b → b ≡ false
    by false e = refl
    by true e =
        let early : in_part (Upto (At m) last) (Act (At k) s) ≡ true = grind (arith, nat_tests, e, l) in
        absurd (empty (subst (λ xs. Contains xs (Act (At k) s)) none (contains_filter (in_part (Upto (At m) last)) cs (Act (At k) s) there early)))
      where
        empty : Contains [] (Act (At k) s) → ⊥
        empty x = omega (arith, x.1)
