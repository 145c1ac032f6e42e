-- Some elements have a last start up to an instant.
use Rattle.std.proofs.Common.{IsTrue}
use Rattle.base.proofs.Public.{◌≡◌, ◌⊎◌, inl, inr, ℕ, zero, suc, ◌<◌, ◌≤◌, Bool, true, false, Some, None, refl, sym, ◌∙◌, subst, arith, cases_lt, cases_eq, false≢true}
use Rattle.slices.specs.Prelude.{Act, Choice, Choices, Element, element_at, element_count, element_number, HasLastStart, Idle, Instance, inventory_of, IsElement, IsQuiet, start_of}
use Rattle.cluster.proofs.Public.{IsListed-element_at, element_at-element_number, element_number-lt}

-- ---- the last start

start_cases : (c : Choice) → (start_of c ≡ None) ⊎ ((s : ℕ) × (start_of c ≡ Some s))
start_cases Idle = inl refl
start_cases (Act place start) = inr (start, refl)

quiet_none : (c : Choice) (u t : ℕ) → start_of c ≡ None → IsQuiet c u t
quiet_none c u t e = λ s f. cc

quiet_some : (c : Choice) (u t s : ℕ) → start_of c ≡ Some s → (s ≤ u) ⊎ (t < s) → IsQuiet c u t
quiet_some c u t s e h = λ x f. let same : s ≡ x = cc in subst (λ k. (k ≤ u) ⊎ (t < k)) same h

quiet_later : (c : Choice) (u w t : ℕ) → u ≤ w → IsQuiet c u t → IsQuiet c w t
quiet_later c u w t l q = λ s e. elim (q s e) [ inl below ↦ inl (omega arith) | inr above ↦ inr above ]

module _ (p : Instance) (plan : Choices) (some : Element → Bool) (t : ℕ) where
  -- the last start up to t, of those of the first k elements that are among some
  record LastOf (k : ℕ) : Type 0 where
    at : ℕ
    early : at ≤ t
    is_start : (at ≡ 0) ⊎ ((e : Element) × IsElement p e × IsTrue (some e) × (start_of (plan e) ≡ Some at))
    quiet : (x : ℕ) → x < k → IsTrue (some (element_at (inventory_of p) x)) → IsQuiet (plan (element_at (inventory_of p) x)) at t

  kept : (k : ℕ) (b : LastOf k) → (IsTrue (some (element_at (inventory_of p) k)) → IsQuiet (plan (element_at (inventory_of p) k)) b.at t) → LastOf (suc k)
  kept k b here = record {
    at = b.at;
    early = b.early;
    is_start = b.is_start;
    quiet = λ x within. elim (cases_eq x k) [ inl e ↦ rw e here | inr n ↦ b.quiet x (omega arith) ];
  }

  later : (k s : ℕ) (b : LastOf k) → IsElement p (element_at (inventory_of p) k) → IsTrue (some (element_at (inventory_of p) k)) → start_of (plan (element_at (inventory_of p) k)) ≡ Some s → s ≤ t → b.at < s → LastOf (suc k)
  later k s b there is e l above = record {
    at = s;
    early = l;
    is_start = inr (element_at (inventory_of p) k, there, is, e);
    quiet = λ x within. elim (cases_eq x k) [
      | inl same ↦ rw same (λ _. quiet_some (plan (element_at (inventory_of p) k)) s t s e (inl (omega arith)))
      | inr n ↦ λ y. quiet_later (plan (element_at (inventory_of p) x)) b.at s t (omega arith) (b.quiet x (omega arith) y)
    ];
  }

  step : (k s : ℕ) (b : LastOf k) → IsElement p (element_at (inventory_of p) k) → IsTrue (some (element_at (inventory_of p) k)) → start_of (plan (element_at (inventory_of p) k)) ≡ Some s → LastOf (suc k)
  step k s b there is e =
      elim (cases_lt t s) [
        | inl above ↦ kept k b (λ _. quiet_some _ b.at t s e (inr above))
        | inr below ↦
            elim (cases_lt b.at s) [
              | inl after ↦ later k s b there is e below after
              | inr sooner ↦ kept k b (λ _. quiet_some _ b.at t s e (inl sooner))
            ]
      ]

  last_of : ((x : ℕ) → x < element_count (inventory_of p) → IsElement p (element_at (inventory_of p) x)) → (k : ℕ) → k ≤ element_count (inventory_of p) → LastOf k
  last_of there zero l = record { at = 0; early = omega arith; is_start = inl refl; quiet = λ x within. absurd (omega arith) }
  last_of there (suc k) l = at (last_of there k (omega arith)) (some (element_at (inventory_of p) k)) refl (start_cases (plan (element_at (inventory_of p) k)))
    where
      at : LastOf k → (y : Bool) → some (element_at (inventory_of p) k) ≡ y → (start_of (plan (element_at (inventory_of p) k)) ≡ None) ⊎ ((s : ℕ) × (start_of (plan (element_at (inventory_of p) k)) ≡ Some s)) → LastOf (suc k)
      at b false e c = kept k b (λ x. absurd (false≢true (sym e ∙ x)))
      at b true e (inl none) = kept k b (λ _. quiet_none _ b.at t none)
      at b true e (inr w) = step k w.0 b (there k (omega arith)) e w.1

pub has_last_start : HasLastStart
has_last_start p plan some t =
    let b : LastOf p plan some t (element_count (inventory_of p)) = last_of p plan some t (IsListed-element_at (inventory_of p)) (element_count (inventory_of p)) (omega arith) in
    record {
      at = b.at;
      early = b.early;
      is_start = b.is_start;
      quiet = λ e there. (rw (element_at-element_number (inventory_of p) e there) at (b.quiet (element_number (inventory_of p) e) (element_number-lt (inventory_of p) e there)));
    }
