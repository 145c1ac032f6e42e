-- A constraint whose bound is kept at every instant is broken at none; and what is kept beside its rule stays right.
use Rattle.rule_setload.proofs.Prelude.{◌≡◌, ℕ, ◌+◌, ◌<◌, Bool, true, false, List, [], ◌∷◌, ◌++◌, Some, refl, ap, arith, slice_get, length-append, Allowed, Apart, AreAllStayers, AreStayersOf, Bound, bound_in, bound_of, Bounded, Choice, choose, Constraint, Element, Form, form_of, has_node, Instance, InTurn, IsBroken, IsClean, IsElement, IsEnd, IsFreeOf, no_stayers, no_watch, node, TheNode, Nodes, of_kind, Ordered, passes, Powered, reason_kind, rule_watch, set_kinds, SetLoad, Sets, setting, Settled, Snapshot, Stayers, StaysAt, StaysWhenDue, is_continuous, sure, Together, total, Vm, Watch, watch_at, Weight, node_change, setting_agrees, setting_total, each_push}

-- ---- the bound of a constraint

within-free : (p : Instance) (s : Sets) (w : Weight) (set : Nodes) (amount t : ℕ) → StaysAt p s w set amount t → IsFreeOf (λ b. amount < total p b w set) p s t
within-free p s w set amount t within = record { base = λ over. omega (arith, over, within.base); ends = at }
  where
    at : (e : Element) (c : Choice) → IsElement p e → IsEnd (s e) c → ¬ (amount < total p (sure p (setting e c s) t) w set)
    at (Vm v) c h end over = omega (arith, setting_total p s v.0 c t w set h, over, within.each v.0 c h end)
    at (TheNode n) c h end over = omega (arith, (node_change p (setting (node n.0) c s) s n.0 t h (setting_agrees s (node n.0) c)).of_total w set, over, within.base)

-- a form that bounds something is broken by that alone
pub bounded : (f : Form) (b : Bound) → bound_of f ≡ Some b → f ≡ Bounded b.weight b.nodes b.amount
bounded (Apart separation) b is = cc
bounded (Allowed vs places) b is = cc
bounded (Together vs groups) b is = cc
bounded (Ordered before after) b is = cc
bounded (InTurn vs) b is = cc
bounded (Bounded weight ns amount) b is = by is
  where
    by : {x : Bound} → Some x ≡ Some b → Bounded x.weight x.nodes x.amount ≡ Bounded b.weight b.nodes b.amount
    by {x} e = let same : x ≡ b = cc in ap (λ (y : Bound). Bounded y.weight y.nodes y.amount) same
bounded (Powered ns amount) b is = cc
bounded Settled b is = cc

unbroken : (p : Instance) (s : Sets) (k : Constraint) (b : Bound) (t : ℕ) → bound_of (form_of k) ≡ Some b → StaysAt p s b.weight (has_node b.nodes) b.amount t → IsFreeOf (λ x. IsBroken p x k) p s t
unbroken p s k b t is within = record { base = λ x. free.base (exceeds _ x); ends = λ e c there end x. free.ends e c there end (exceeds _ x) }
  where
    form : form_of k ≡ Bounded b.weight b.nodes b.amount
    form = bounded (form_of k) b is

    exceeds : (x : Snapshot) → IsBroken p x k → b.amount < total p x b.weight (has_node b.nodes)
    exceeds x h = rw form at (of_kind p x SetLoad k (rw form refl) h)

    free : IsFreeOf (λ x. b.amount < total p x b.weight (has_node b.nodes)) p s t
    free = within-free p s b.weight (has_node b.nodes) b.amount t within

pub chosen_clean : (on : Bool) (w : Watch) (p : Instance) (s : Sets) → IsClean w p s → IsClean (choose on w no_watch) p s
chosen_clean true w p s clean = clean
chosen_clean false w p s clean = λ t h. record { base = λ x. x; ends = λ e c there end x. x }

-- it is clean as a watch of the rule of amounts
pub bound_clean : (p : Instance) (s : Sets) (c : ℕ) (k : Constraint) (b : Bound) → slice_get p.constraints c ≡ Some k → bound_of (form_of k) ≡ Some b → StaysWhenDue p s b.weight (has_node b.nodes) b.amount (is_continuous k) → IsClean (watch_at set_kinds p c) p s
bound_clean p s c k b read is within =
    rw read (chosen_clean (passes set_kinds (reason_kind k)) (rule_watch p k) p s (λ t h. record {
      base = λ x. (unbroken p s k b t is (within t h x.0)).base x.1;
      ends = λ e d there end x. (unbroken p s k b t is (within t h x.0)).ends e d there end x.1;
    }))

-- ---- what is kept beside the rule

pub no_stayer : (p : Instance) → AreAllStayers p 0 []
no_stayer p = record { count = refl; each = λ c low. absurd (omega (arith, low)) }

pub next_stayers : (p : Instance) (c : ℕ) (xs : List Stayers) (x : Stayers) → AreAllStayers p c xs → AreStayersOf p (bound_in (slice_get p.constraints c)) x → AreAllStayers p (c + 1) (xs ++ x ∷ [])
next_stayers p c xs x before here = record {
  count = omega (arith, length-append xs (x ∷ []), before.count);
  each = each_push (λ d y. AreStayersOf p (bound_in (slice_get p.constraints d)) y) no_stayers c xs x before.count before.each here;
}
