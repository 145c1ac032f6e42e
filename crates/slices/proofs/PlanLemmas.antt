-- Lists of legal choices are plans, and a plan that is over is as it was planned.
use Rattle.std.proofs.Common.{slice_index_or, IsTrue}
use Rattle.base.proofs.Public.{◌≡◌, ◌⊎◌, inl, inr, ℕ, ◌+◌, ◌≤◌, true, nat_lt, ◌-◌, IsSome, refl, ap, sym, ◌∙◌, subst, arith, and_parts, le-leb, leb-true, lt-ltb, le-ltb, get_or-drop, get_or-take, length-drop, length-take-le}
use Rattle.slices.specs.Prelude.{Act, action_duration, AreOver, Choice, choices_of, Element, end_of, Gone, held_by, Idle, idle_slices, Init, Instance, is_legal, is_online, IsElement, IsPlanOf, LegalIsPlan, machine_count, node, Node as TheNode, Nodes, OverAsPlanned, parted, Place, PlanChoices, powered_of, Presence, progress_of, slices_of, snapshot, Stage, stage_at, stages_at, start_of, State, state_of, usable_of, Vm, vm, weigh, Weight}
use Rattle.cluster.specs.declared.states.State.TheVariants.{Ready, Running, Sleeping}
use Rattle.slices.proofs.StartLemmas.{past-idle}

-- ---- lists of legal choices

past_start : (m n : ℕ) → (m + n) - m ≡ n
past_start m n = omega arith

pub legal_is_plan : LegalIsPlan
legal_is_plan p choices e legal = record {
  machines = length-take-le (machine_count p) choices (omega (arith, e));
  nodes = length-drop (machine_count p) choices ∙ omega (arith, e);
  legal = at;
}
  where
    at : (x : Element) → IsElement p x → IsTrue (is_legal p x (choices_of (parted p choices) x))
    at (Vm v) l =
        rw (get_or-take (machine_count p) choices v.0 Idle l) (rw (lt-ltb v.0 (machine_count p) l) at (legal v.0 (omega (arith, l))))
    at (TheNode n) l =
        rw (get_or-drop (machine_count p) choices n.0 Idle)
        (subst (λ k. IsTrue (is_legal p (node k) (slice_index_or choices (machine_count p + n.0) Idle))) (past_start (machine_count p) n.0)
        (rw (le-ltb (machine_count p + n.0) (machine_count p) (omega arith)) at (legal (machine_count p + n.0) (omega (arith, l)))))

-- ---- plans that are over

abbrev full : Stage
full = record { started = true; ended = true }

-- at the horizon the action of a legal choice is over
act-over : (p : Instance) (e : Element) (place : Place) (start : ℕ) → IsTrue (is_legal p e (Act place start)) → full ≡ stage_at p e (Act place start) p.horizon
unfolding stage_at is_legal end_of
act-over p e place start legal =
    let ends : start + action_duration p e place ≤ p.horizon = leb-true (start + action_duration p e place) p.horizon (and_parts _ _ legal).1 in
    sym (λ i. record { started = le-leb start p.horizon (omega (arith, ends)) i; ended = le-leb (start + action_duration p e place) p.horizon ends i })

-- an element is idle, or its action is as far as at the horizon
stage-over : (p : Instance) (plan : PlanChoices) → IsPlanOf p plan → (stages : Element → Stage) → AreOver p (choices_of plan) stages → (e : Element) → (choices_of plan e ≡ Idle) ⊎ (stages e ≡ stages_at p (choices_of plan) p.horizon e)
unfolding stages_at
stage-over p plan is stages over e =
    elim (past-idle p plan is e) [ inr idle ↦ inl idle | inl there ↦ at (choices_of plan e) refl (is.legal e there) (over e there) ]
  where
    at : (c : Choice) → choices_of plan e ≡ c → IsTrue (is_legal p e c) → (IsSome (start_of c) → stages e ≡ full) → (choices_of plan e ≡ Idle) ⊎ (stages e ≡ stage_at p e (choices_of plan e) p.horizon)
    at Idle x legal h = inl x
    at (Act place start) x legal h = inr (h refl ∙ act-over p e place start legal ∙ ap (λ k. stage_at p e k p.horizon) (sym x))

idle-held : (p : Instance) (v : ℕ) (w : Weight) (set : Nodes) (g h : Stage) → held_by p v w set Idle g ≡ held_by p v w set Idle h
unfolding held_by slices_of
idle-held p v w set g h = at (state_of p v)
  where
    at : (s : State) → weigh p v w (idle_slices s).source g set + weigh p v w (idle_slices s).target g set + weigh p v w (idle_slices s).image g set ≡ weigh p v w (idle_slices s).source h set + weigh p v w (idle_slices s).target h set + weigh p v w (idle_slices s).image h set
    at Init = refl
    at Ready = refl
    at (Running n) = refl
    at (Sleeping n) = refl
    at Gone = refl

module _ (p : Instance) (plan : PlanChoices) (is : IsPlanOf p plan) (stages : Element → Stage) (over : AreOver p (choices_of plan) stages) where
  -- what does not depend on the stage of an idle element is as at the horizon
  as-planned : {X : Type 0} (f : Choice → Stage → X) → ((g h : Stage) → f Idle g ≡ f Idle h) → (e : Element) → f (choices_of plan e) (stages e) ≡ f (choices_of plan e) (stages_at p (choices_of plan) p.horizon e)
  as-planned f idle e =
      elim (stage-over p plan is stages over e) [
        | inl x ↦ subst (λ k. f k (stages e) ≡ f k (stages_at p (choices_of plan) p.horizon e)) (sym x) (idle _ _)
        | inr same ↦ ap (f (choices_of plan e)) same
      ]

  held-planned : (v : ℕ) (w : Weight) (set : Nodes) → held_by p v w set (choices_of plan (vm v)) (stages (vm v)) ≡ held_by p v w set (choices_of plan (vm v)) (stages_at p (choices_of plan) p.horizon (vm v))
  held-planned v w set = as-planned (held_by p v w set) (idle-held p v w set) (vm v)

pub over_as_planned : OverAsPlanned
unfolding snapshot
over_as_planned p plan is stages over =
    λ i. record {
      held = λ v w set. held-planned p plan is stages over v w set i;
      present = λ v set. nat_lt 0 (held-planned p plan is stages over v Presence set i);
      usable = λ n. as-planned p plan is stages over (usable_of (is_online p.nodes n)) (λ g h. refl) (node n) i;
      powered = λ n. as-planned p plan is stages over (powered_of (is_online p.nodes n)) (λ g h. refl) (node n) i;
      action = λ v far. as-planned p plan is stages over (progress_of far) (λ g h. refl) (vm v) i;
    }
