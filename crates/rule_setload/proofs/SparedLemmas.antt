-- A machine does not weigh on an amount that has nothing on the nodes at present, and may be elsewhere.
use Rattle.rule_setload.proofs.Prelude.{◌≡◌, ◌⊎◌, inl, inr, ℕ, ◌<◌, ◌≤◌, Bool, true, false, ◌&&◌, nat_lt, cond, List, [], ◌∷◌, Some, refl, arith, slice_get, nat_tests, sum_to-le, held_by_node, kept_law, arrival, numbers, of_one, first_of, no_less, Place, false≢true}
use Rattle.rule_setload.specs.Prelude.{Act, AreFewer, At, base, Bound, Choice, comes_by, Constraint, constraint_watch, form_of, gain, Gone, has_node, held_at, hosted_in, Idle, Init, Instance, bound_of, IsEnd, IsExtra, IsHarmless, IsInstance, IsLess, IsMachineLess, IsStill, kept_use, least, leave_of, never, node_count, Nodes, Nowhere, one, Ready, Running, Sets, Sleeping, State, state_of, stay_of, sure, vm, Vm, VmId, Weight, weights_on}
use Rattle.rule_setload.proofs.AmountLemmas.{held_parts, so_most}
use Rattle.rule_setload.proofs.BoundLemmas.{bounded}

module _ (p : Instance) (sound : IsInstance p) (w : Weight) (set : Nodes) (v : ℕ) (none : stay_of p w set v ≡ 0) where
  -- ---- on a node of the set it has what it brings alone

  hosted-there : (s : State) (n : ℕ) → set n ≡ true → hosted_in s (one n) ≡ true → hosted_in s set ≡ true
  hosted-there Init n on e = absurd (false≢true e)
  hosted-there Ready n on e = absurd (false≢true e)
  hosted-there (Running h) n on e = let same : h.0 ≡ n = grind (arith, nat_tests, e) in rw same on
  hosted-there (Sleeping h) n on e = let same : h.0 ≡ n = grind (arith, nat_tests, e) in rw same on
  hosted-there Gone n on e = absurd (false≢true e)

  none-kept : (n : ℕ) (stays : Bool) → set n ≡ true → cond (hosted_in (state_of p v) (one n) && stays) (base p v w) 0 ≤ 0
  none-kept n stays on = by (hosted_in (state_of p v) (one n)) refl
    where
      by : (b : Bool) → hosted_in (state_of p v) (one n) ≡ b → cond (b && stays) (base p v w) 0 ≤ 0
      by false e = omega arith
      by true e = let nothing : base p v w ≡ 0 = rw (hosted-there (state_of p v) n on e) at none in at stays nothing
        where
          at : (b : Bool) → base p v w ≡ 0 → cond b (base p v w) 0 ≤ 0
          at false is = omega arith
          at true is = omega (arith, is)

  brought-on : (n t : ℕ) (c : Choice) → t < never → set n ≡ true → held_at p v w (one n) t c ≡ cond (comes_by n t (arrival c)) (gain p v w n) 0
  brought-on n t c short on =
      let law : held_at p v w (one n) t c ≡ kept_use p v w n t (numbers p v c) = kept_law p v w n t (c ∷ []) (numbers p v c) short (of_one p v c) in
      omega (arith, law, none-kept n (nat_lt t (leave_of p v c)) on)

  -- ---- so a sooner start at the same place holds no less

  sooner-brings : (n t u s g : ℕ) (place : Place) → u ≤ s → cond (comes_by n t (arrival (Act place s))) g 0 ≤ cond (comes_by n t (arrival (Act place u))) g 0
  sooner-brings n t u s g Nowhere l = omega arith
  sooner-brings n t u s g (At m) l = no_less (one n m.0) u s t g l

  sooner-more : (t u s : ℕ) (place : Place) → u ≤ s → t ≤ p.horizon → held_at p v w set t (Act place s) ≤ held_at p v w set t (Act place u)
  sooner-more t u s place l early =
      omega (
        arith,
        held_by_node p sound v w set t (Act place s),
        held_by_node p sound v w set t (Act place u),
        sum_to-le (node_count p) (λ n. cond (set n) (held_at p v w (one n) t (Act place s)) 0) (λ n. cond (set n) (held_at p v w (one n) t (Act place u)) 0) (λ n low. each n (set n) refl),
      )
    where
      each : (n : ℕ) (b : Bool) → set n ≡ b → cond b (held_at p v w (one n) t (Act place s)) 0 ≤ cond b (held_at p v w (one n) t (Act place u)) 0
      each n false off = omega arith
      each n true on =
          let short : t < never = omega (arith, sound.horizon, early) in
          omega (arith, brought-on n t (Act place s) short on, brought-on n t (Act place u) short on, sooner-brings n t u s (gain p v w n) place l)

  -- ---- a change

  less : (t : ℕ) (cs ds : List Choice) → least (held_at p v w set t) cs ≤ least (held_at p v w set t) ds → IsMachineLess p (weights_on w set) v t cs ds
  less t cs ds le = record {
    held = λ u nodes i. rw (i.0, i.1) le;
    present = λ nodes x. absurd x;
    action = λ far x. absurd x;
  }

  module _ (s : Sets) (old : List Choice) (extra : IsExtra p s w set v 0) (fewer : AreFewer (s (vm v)) old) where
    ends : (c : Choice) → IsEnd (s (vm v)) c → (t : ℕ) → t ≤ p.horizon → IsLess p (weights_on w set) (vm v) t (c ∷ []) old ⊎ ((d : Choice) × IsEnd old d × IsLess p (weights_on w set) (vm v) t (c ∷ []) (d ∷ []))
    ends Idle end t l = inl (less t (Idle ∷ []) old (omega (arith, held_parts p sound w set v t Idle l, so_most p sound w set (nat_lt t (leave_of p v Idle)) (stay_of p w set v), none)))
    ends (Act place s) end t l =
        let first = first_of old place s (fewer (Act place s) end.0) in
        inr (Act place first.0, (first.1, inl first.2), less t (Act place s ∷ []) (Act place first.0 ∷ []) (sooner-more t first.0 s place (first.2 s (fewer (Act place s) end.0)) l))

    pub away_still : IsStill p (weights_on w set) (vm v) old (s (vm v))
    unfolding sure
    away_still = record {
      sure = λ t l. less t (s (vm v)) old (omega (arith, extra.each t l, none));
      ends = λ c end t l. ends c end t l;
    }

pub away_harmless : (p : Instance) (s : Sets) (c : ℕ) (k : Constraint) (b : Bound) (v : VmId) → IsInstance p → slice_get p.constraints c ≡ Some k → bound_of (form_of k) ≡ Some b → stay_of p b.weight (has_node b.nodes) v.0 ≡ 0 → IsExtra p s b.weight (has_node b.nodes) v.0 0 → IsHarmless (constraint_watch p c) p s (Vm v)
away_harmless p s c k b v sound there is none extra old fewer = rw (there, bounded (form_of k) b is) (inl (away_still p sound b.weight (has_node b.nodes) v.0 none s old extra fewer))
