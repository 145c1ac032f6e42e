-- A valid plan is valid with all that the instance has not idle: no rule speaks of that.
use Rattle.std.proofs.Common.{IsTrue}
use Rattle.base.proofs.Public.{◌≡◌, ℕ, ◌<◌, ◌≤◌, Bool, true, false, ◌||◌, ◌==◌, cond, nat_lt, sym, ap, subst, ◌∙◌, arith, false≢true, sum_to-same}
use Rattle.reasons.specs.Prelude.{Acting, action_at, Allowed, Amount, Apart, Between, Bounded, Choices, Constraint as OfConstraint, Each, Form, form_of, FromOthers, held_at, Image, InRange, Instance, InTurn, is_element, IsLessForForm, IsLessSeparated, IsValid, Keeps, machine_count, node, node_count, Nodes, one, Ordered, Powered, powered_at, present_at, Progress, Rule, Separation, Settled, snapshot_of, Started, Together, Unended, usable_at, vm, Weight, within, WithinValid}
use Rattle.cluster.specs.declared.choices.Choice.TheVariants.{Idle}
use Rattle.slices.specs.declared.rule.Rule.TheVariants.{Load, Usable}
use Rattle.slices.proofs.Public.{is_pointwise, less_holds}
use Rattle.reasons.proofs.StartLemmas.{within-same}

module _ (p : Instance) (plan : Choices) (t : ℕ) where
  held : (v : ℕ) → v < machine_count p → (w : Weight) (set : Nodes) → held_at p v w set t (within p plan (vm v)) ≡ held_at p v w set t (plan (vm v))
  held v l w set = ap (held_at p v w set t) (within-same p plan (vm v) l)

  held-le : (v : ℕ) → v < machine_count p → (w : Weight) (set : Nodes) → held_at p v w set t (within p plan (vm v)) ≤ held_at p v w set t (plan (vm v))
  held-le v l w set = let same = held v l w set in omega (arith, same)

  present : (v : ℕ) → v < machine_count p → (set : Nodes) → IsTrue (present_at p v set t (within p plan (vm v))) → IsTrue (present_at p v set t (plan (vm v)))
  present v l set x = sym (ap (present_at p v set t) (within-same p plan (vm v) l)) ∙ x

  powered : (n : ℕ) → n < node_count p → IsTrue (powered_at p n t (within p plan (node n))) → IsTrue (powered_at p n t (plan (node n)))
  powered n l x = sym (ap (powered_at p n t) (within-same p plan (node n) l)) ∙ x

  -- an idle machine acts in no way
  action : (v : ℕ) (far : Progress) → IsTrue (action_at p v far t (within p plan (vm v))) → IsTrue (action_at p v far t (plan (vm v)))
  unfolding action_at
  action v far = at (is_element p (vm v))
    where
      at : (b : Bool) → IsTrue (action_at p v far t (cond b (plan (vm v)) Idle)) → IsTrue (action_at p v far t (plan (vm v)))
      at true x = x
      at false x = absurd (false≢true x)

  less_apart-within : (separation : Separation) → IsLessSeparated p separation (snapshot_of p (within p plan) t) (snapshot_of p plan t)
  less_apart-within (Each vs) = λ v l m. present v l
  less_apart-within (Between parts) = λ i v l m. present v l
  less_apart-within (FromOthers vs) = λ v l. present v l

  less_for-within : (f : Form) → IsLessForForm p f (snapshot_of p (within p plan) t) (snapshot_of p plan t)
  less_for-within (Apart separation) = less_apart-within separation
  less_for-within (Allowed vs places) = λ v l m. present v l
  less_for-within (Together vs groups) = λ v l m. present v l
  less_for-within (Ordered before after) = (action after.0 Started, action before.0 Unended)
  less_for-within (InTurn vs) = λ v l m. action v Acting
  less_for-within (Bounded weight ns amount) = λ v l. held-le v l weight
  less_for-within (Powered ns amount) = λ n l m. powered n l
  less_for-within Settled = tt

  keeps-within : (last : Bool) (r : Rule) → InRange p r → Keeps p (snapshot_of p plan t) last r → Keeps p (snapshot_of p (within p plan) t) last r
  keeps-within last (Load n r) i h =
      let same = sum_to-same (machine_count p) (λ v. held_at p v (Amount r) (one n.0) t (within p plan (vm v))) (λ v. held_at p v (Amount r) (one n.0) t (plan (vm v))) (λ v l. held v l (Amount r) (one n.0)) in
      omega (arith, same, h)
  keeps-within last (Usable v n) i h =
      λ x.
      let stands = subst (λ c. IsTrue (present_at p v.0 (one n.0) t c || nat_lt 0 (held_at p v.0 Image (one n.0) t c))) (within-same p plan (vm v.0) i.0) x in
      ap (usable_at p n.0 t) (within-same p plan (node n.0) i.1) ∙ h stands
  keeps-within last (OfConstraint c) i h =
      λ a k e. less_holds p (snapshot_of p (within p plan) t) (snapshot_of p plan t) k (less_for-within (form_of k)) (h a k e)

pub within_valid : WithinValid
unfolding IsValid
within_valid p plan valid t l r i =
    let kept : Keeps p (snapshot_of p plan t) (t == p.horizon) r = subst (λ s. Keeps p s (t == p.horizon) r) (is_pointwise p plan t) (valid t l r i) in
    subst (λ s. Keeps p s (t == p.horizon) r) (sym (is_pointwise p (within p plan) t)) (keeps-within p plan t (t == p.horizon) r i kept)
