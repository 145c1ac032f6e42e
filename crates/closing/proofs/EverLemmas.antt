-- What stays within an amount at every instant.
use Rattle.closing.proofs.Prelude.{◌≡◌, ℕ, ◌+◌, ◌<◌, ◌≤◌, ◌-◌, Some, arith, slice_get, Bounded, Choice, Constraint, constraint_watch, form_of, has_node, held_at, Instance, IsBroken, IsClean, IsEnd, IsFreeOf, IsSpared, Nodes, NodeSet, Sets, StaysWithin, sure, total, vm, Weight}
use Rattle.closing.proofs.{FormLemmas.form_broken, FoundLemmas.freed, SettingLemmas.total_free}

spared : (p : Instance) (s : Sets) (w : Weight) (set : Nodes) (t amount sum : ℕ) (v : ℕ) → ((c : Choice) → IsEnd (s (vm v)) c → sum + held_at p v w set t c ≤ amount + (sure p s t).held v w set) → IsSpared p s w set t (amount - sum) v
spared p s w set t amount sum v each = record { ends = λ c end above. omega (arith, each c end, above) }

total-within : (p : Instance) (s : Sets) (w : Weight) (set : Nodes) (amount : ℕ) → StaysWithin p s w set amount → (t : ℕ) → IsFreeOf (λ b. amount < total p b w set) p s t
total-within p s w set amount stays t =
    total_free p s w set t amount (amount - total p (sure p s t) w set) (omega (arith, stays.base t)) (λ v h. spared p s w set t amount (total p (sure p s t) w set) v (λ c end. stays.each v t c h end))

-- a constraint that is broken at no instant is clean
pub never_broken : (p : Instance) (s : Sets) (c : ℕ) (k : Constraint) → slice_get p.constraints c ≡ Some k → ((t : ℕ) → IsFreeOf (λ b. IsBroken p b k) p s t) → IsClean (constraint_watch p c) p s
never_broken p s c k read free t h = rw read (record { base = λ x. (free t).base x.1; ends = λ e d there end x. (free t).ends e d there end x.1 })

-- one that bounds what stays within its amount is
pub bounded_unbroken : (p : Instance) (s : Sets) (k : Constraint) (w : Weight) (ns : NodeSet) (amount : ℕ) → form_of k ≡ Bounded w ns amount → StaysWithin p s w (has_node ns) amount → (t : ℕ) → IsFreeOf (λ b. IsBroken p b k) p s t
bounded_unbroken p s k w ns amount is stays t =
    freed (λ b. IsBroken p b k) (λ b. amount < total p b w (has_node ns)) p s t (λ b x. rw is at (form_broken p b k x)) (total-within p s w (has_node ns) amount stays t)
