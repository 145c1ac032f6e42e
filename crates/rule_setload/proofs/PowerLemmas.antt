-- A constraint on powered nodes is a clean watch where their number stays within its amount.
use Rattle.rule_setload.proofs.Prelude.{◌≡◌, ℕ, ◌<◌, ap, refl, slice_get, Some, Allowed, Apart, Bounded, Constraint, Form, form_of, has_node, Instance, InTurn, IsBroken, IsClean, is_continuous, IsFreeOf, of_kind, Ordered, passes, Power, Powered, reason_kind, rule_watch, set_kinds, Sets, Settled, Snapshot, Together, watch_at}
use Rattle.rule_setload.specs.Prelude.{power_of, PowerBound, powered_nodes, PowerStaysAt, PowerStaysWhenDue}
use Rattle.rule_setload.proofs.BoundLemmas.{chosen_clean}

-- a form on powered nodes is broken by their number alone
powered-form : (f : Form) (b : PowerBound) → power_of f ≡ Some b → f ≡ Powered b.nodes b.amount
powered-form (Apart separation) b is = cc
powered-form (Allowed vs places) b is = cc
powered-form (Together vs groups) b is = cc
powered-form (Ordered before after) b is = cc
powered-form (InTurn vs) b is = cc
powered-form (Bounded weight ns amount) b is = cc
powered-form (Powered ns amount) b is = by is
  where
    by : {x : PowerBound} → Some x ≡ Some b → Powered x.nodes x.amount ≡ Powered b.nodes b.amount
    by {x} e = let same : x ≡ b = cc in ap (λ (y : PowerBound). Powered y.nodes y.amount) same
powered-form Settled b is = cc

unbroken : (p : Instance) (s : Sets) (k : Constraint) (b : PowerBound) (t : ℕ) → power_of (form_of k) ≡ Some b → PowerStaysAt p s (has_node b.nodes) b.amount t → IsFreeOf (λ x. IsBroken p x k) p s t
unbroken p s k b t is free = record { base = λ x. free.base (exceeds _ x); ends = λ e c there end x. free.ends e c there end (exceeds _ x) }
  where
    form : form_of k ≡ Powered b.nodes b.amount
    form = powered-form (form_of k) b is

    exceeds : (x : Snapshot) → IsBroken p x k → b.amount < powered_nodes p x (has_node b.nodes)
    exceeds x h = rw form at (of_kind p x Power k (rw form refl) h)

pub power_clean : (p : Instance) (s : Sets) (c : ℕ) (k : Constraint) (b : PowerBound) → slice_get p.constraints c ≡ Some k → power_of (form_of k) ≡ Some b → PowerStaysWhenDue p s (has_node b.nodes) b.amount (is_continuous k) → IsClean (watch_at set_kinds p c) p s
power_clean p s c k b read is within =
    rw read (chosen_clean (passes set_kinds (reason_kind k)) (rule_watch p k) p s (λ t h. record {
      base = λ x. (unbroken p s k b t is (within t h x.0)).base x.1;
      ends = λ e d there end x. (unbroken p s k b t is (within t h x.0)).ends e d there end x.1;
    }))
