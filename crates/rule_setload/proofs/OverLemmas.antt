-- Where what is surely held is more than an amount.
use Rattle.rule_setload.proofs.Prelude.{◌≡◌, inl, inr, ℕ, zero, suc, ◌+◌, ◌<◌, ◌≤◌, ◌||◌, ◌==◌, IsTrue, Some, arith, slice_get, cases_eq}
use Rattle.rule_setload.specs.Prelude.{Applies, Bound, bound_of, Constraint, ExceedsAmount, form_of, has_node, Instance, is_continuous, IsSetLoad, Nodes, Sets, Snapshot, sum_to, sure, total, vm, Weight}
use Rattle.rule_setload.proofs.BoundLemmas.{bounded}

-- where all choices of a machine are seen
pub same_held : (p : Instance) (s r : Sets) (w : Weight) (set : Nodes) (v t m : ℕ) → s (vm v) ≡ r (vm v) → m ≤ (sure p r t).held v w set → m ≤ (sure p s t).held v w set
unfolding sure
same_held p s r w set v t m same l = rw same l

-- the first terms are no more than all
pub some_terms : (f : ℕ → ℕ) (i m : ℕ) → i ≤ m → sum_to i f ≤ sum_to m f
some_terms f i zero l = let none : i ≡ 0 = omega (arith, l) in rw none (omega arith)
some_terms f i (suc m) l = elim (cases_eq i (suc m)) [ inl same ↦ rw same (omega arith) | inr other ↦ omega (arith, some_terms f i m (omega (arith, l, other))) ]

-- with a later term, of those past the first ones
pub one_more : (f : ℕ → ℕ) (i m x total : ℕ) → i ≤ m → total ≤ sum_to i f → x ≤ f m → total + x ≤ sum_to (m + 1) f
one_more f i m x total l before here =
    let next : m + 1 ≡ suc m = omega arith in
    rw next (omega (arith, some_terms f i m l, before, here))

-- a constraint that applies is broken by it
pub over_applies : (p : Instance) (c t : ℕ) (k : Constraint) (b : Bound) (x : Snapshot) → slice_get p.constraints c ≡ Some k → bound_of (form_of k) ≡ Some b → IsTrue (is_continuous k || (t == p.horizon)) → b.amount < total p x b.weight (has_node b.nodes) → Applies p c t (IsSetLoad p x)
over_applies p c t k b x read is due over = rw read (due, exceeds)
  where
    exceeds : ExceedsAmount p x (form_of k)
    exceeds = rw (bounded (form_of k) b is) over
