-- A part of a snapshot keeps what the snapshot keeps, and earlier stages make a part.
use Rattle.std.proofs.Common.{IsTrue, slice_get}
use Rattle.base.proofs.Public.{ℕ, ◌≤◌, Bool, true, false, not, ◌&&◌, ◌||◌, ◌==◌, Option, Some, None, refl, arith, false≢true, sum_to-le, cond-implied, positive_above}
use Rattle.slices.specs.Prelude.{Act, Acting, Allowed, Always, Amount, Apart, BeforeEnd, Between, Bounded, Choice, Constraint as OfConstraint, continuous_at, covers, Each, ExecutionKeeps, Form, form_of, FromOthers, FromStart, held_by, Idle, Image, Instance, InTurn, is_online, IsLessForForm, IsLessSeparated, IsPartOf, IsValid, Keeps, Load, machine_count, node, Nodes, one, Ordered, PartsKeep, Powered, powered_of, Presence, Progress, progress_of, Rule, Separation, Settled, Slice, slices_of, Snapshot, snapshot, snapshot_at, Span, Stage, StagePartsArePart, stages_at, Started, Together, Unended, Usable, usable_of, vm, weigh, Weight, weight_of}
use Rattle.slices.proofs.FewerLemmas.{less_holds}

-- ---- tests that imply others

pub not-part : (a b : Bool) → (IsTrue b → IsTrue a) → IsTrue (not a) → IsTrue (not b)
not-part true b h x = absurd (false≢true x)
not-part false true h x = absurd (false≢true (h refl))
not-part false false h x = refl

both-part : (a b c d : Bool) → (IsTrue a → IsTrue c) → (IsTrue b → IsTrue d) → IsTrue (a && b) → IsTrue (c && d)
both-part true b true d f g x = g x
both-part true b false d f g x = absurd (false≢true (f refl))
both-part false b c d f g x = absurd (false≢true x)

pub or_implied : (a b c d : Bool) → (IsTrue a → IsTrue c) → (IsTrue b → IsTrue d) → IsTrue (a || b) → IsTrue (c || d)
or_implied true b true d f g x = refl
or_implied true b false d f g x = absurd (false≢true (f refl))
or_implied false b true d f g x = refl
or_implied false b false d f g x = g x

-- ---- a part keeps

less_apart-part : (p : Instance) (s big : Snapshot) → IsPartOf s big → (separation : Separation) → IsLessSeparated p separation s big
less_apart-part p s big part (Each vs) = λ v i m. part.present v
less_apart-part p s big part (Between parts) = λ i v l m. part.present v
less_apart-part p s big part (FromOthers vs) = λ v i. part.present v

less_for-part : (p : Instance) (s big : Snapshot) → IsPartOf s big → (f : Form) → IsLessForForm p f s big
less_for-part p s big part (Apart separation) = less_apart-part p s big part separation
less_for-part p s big part (Allowed vs places) = λ v i m. part.present v
less_for-part p s big part (Together vs groups) = λ v i m. part.present v
less_for-part p s big part (Ordered before after) = (part.action after.0 Started, part.action before.0 Unended)
less_for-part p s big part (InTurn vs) = λ v i m. part.action v Acting
less_for-part p s big part (Bounded weight ns amount) = λ v i. part.held v weight
less_for-part p s big part (Powered ns amount) = λ n i m. part.powered n
less_for-part p s big part Settled = tt

pub parts_keep : PartsKeep
parts_keep p s big part last (Load n r) h =
    omega (arith, sum_to-le (machine_count p) (λ v. s.held v (Amount r) (one n.0)) (λ v. big.held v (Amount r) (one n.0)) (λ v i. part.held v (Amount r) (one n.0)), h)
parts_keep p s big part last (Usable v n) h =
    λ x. part.usable n.0 (h (or_implied _ _ _ _ (part.present v.0 (one n.0)) (positive_above _ _ (part.held v.0 Image (one n.0))) x))
parts_keep p s big part last (OfConstraint c) h = λ a k e. less_holds p s big k (less_for-part p s big part (form_of k)) (h a k e)

-- ---- where less has started and more has ended, there is only less

covers-part : (span : Span) (s t : Stage) → (IsTrue s.started → IsTrue t.started) → (IsTrue t.ended → IsTrue s.ended) → IsTrue (covers span s) → IsTrue (covers span t)
covers-part Always s t a b x = x
covers-part FromStart s t a b x = a x
covers-part BeforeEnd s t a b x = not-part s.ended t.ended b x

weigh-part : (p : Instance) (v : ℕ) (w : Weight) (o : Option Slice) (set : Nodes) (s t : Stage) → (IsTrue s.started → IsTrue t.started) → (IsTrue t.ended → IsTrue s.ended) → weigh p v w o s set ≤ weigh p v w o t set
weigh-part p v w None set s t a b = omega arith
weigh-part p v w (Some o) set s t a b =
    cond-implied (set o.node.0 && covers o.span s) (set o.node.0 && covers o.span t) (weight_of p v w o.what) (both-part (set o.node.0) _ (set o.node.0) _ (λ x. x) (covers-part o.span s t a b))

pub held_by-part : (p : Instance) (v : ℕ) (w : Weight) (set : Nodes) (c : Choice) (s t : Stage) → (IsTrue s.started → IsTrue t.started) → (IsTrue t.ended → IsTrue s.ended) → held_by p v w set c s ≤ held_by p v w set c t
unfolding held_by
held_by-part p v w set c s t a b =
    let x = slices_of p v c in
    omega (arith, weigh-part p v w x.source set s t a b, weigh-part p v w x.target set s t a b, weigh-part p v w x.image set s t a b)

pub usable_of-part : (online : Bool) (c : Choice) (s t : Stage) → (IsTrue s.started → IsTrue t.started) → (IsTrue t.ended → IsTrue s.ended) → IsTrue (usable_of online c t) → IsTrue (usable_of online c s)
usable_of-part online Idle s t a b x = x
usable_of-part true (Act place start) s t a b x = not-part t.started s.started a x
usable_of-part false (Act place start) s t a b x = b x

pub powered_of-part : (online : Bool) (c : Choice) (s t : Stage) → (IsTrue s.started → IsTrue t.started) → (IsTrue t.ended → IsTrue s.ended) → IsTrue (powered_of online c s) → IsTrue (powered_of online c t)
powered_of-part online Idle s t a b x = x
powered_of-part true (Act place start) s t a b x = not-part s.ended t.ended b x
powered_of-part false (Act place start) s t a b x = a x

pub progress_of-part : (far : Progress) (c : Choice) (s t : Stage) → (IsTrue s.started → IsTrue t.started) → (IsTrue t.ended → IsTrue s.ended) → IsTrue (progress_of far c s) → IsTrue (progress_of far c t)
progress_of-part far Idle s t a b x = x
progress_of-part Started (Act place start) s t a b x = a x
progress_of-part Unended (Act place start) s t a b x = not-part s.ended t.ended b x
progress_of-part Acting (Act place start) s t a b x = both-part _ _ _ _ a (not-part s.ended t.ended b) x

pub stage_parts_are_part : StagePartsArePart
unfolding snapshot
stage_parts_are_part p plan s t part = record {
  held = λ v w set. held_by-part p v w set (plan (vm v)) (s (vm v)) (t (vm v)) (part.started (vm v)) (part.ended (vm v));
  present = λ v set. positive_above _ _ (held_by-part p v Presence set (plan (vm v)) (s (vm v)) (t (vm v)) (part.started (vm v)) (part.ended (vm v)));
  usable = λ n. usable_of-part (is_online p.nodes n) (plan (node n)) (s (node n)) (t (node n)) (part.started (node n)) (part.ended (node n));
  powered = λ n. powered_of-part (is_online p.nodes n) (plan (node n)) (s (node n)) (t (node n)) (part.started (node n)) (part.ended (node n));
  action = λ v far. progress_of-part far (plan (vm v)) (s (vm v)) (t (vm v)) (part.started (vm v)) (part.ended (vm v));
}

-- ---- an execution keeps the rules of a valid plan

applies-last : (a : Bool) (last : Bool) → IsTrue (a || false) → IsTrue (a || last)
applies-last true last x = refl
applies-last false last x = absurd (false≢true x)

Keeps-continuous : (p : Instance) (s : Snapshot) (last : Bool) (r : Rule) → Keeps p s last r → Keeps p s false r
Keeps-continuous p s last (Load n r) k = k
Keeps-continuous p s last (Usable v n) k = k
Keeps-continuous p s last (OfConstraint c) k = λ a. k (applies-last (continuous_at (slice_get p.constraints c)) last a)

pub execution_keeps : ExecutionKeeps
unfolding IsValid
execution_keeps p plan valid t within now part r i =
    parts_keep p (snapshot p plan now) (snapshot_at p plan t) (stage_parts_are_part p plan now (stages_at p plan t) part) false r (Keeps-continuous p (snapshot_at p plan t) (t == p.horizon) r (valid t within r i))
