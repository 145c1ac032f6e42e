-- At each instant the problem that is left holds a part of what the old plan holds there once what has ended counts: so each rule is kept.
use Rattle.base.proofs.Public.{◌≡◌, inl, inr, ℕ, ◌+◌, ◌≤◌, Bool, true, false, not, ◌&&◌, ◌==◌, nat_lt, List, Some, IsTrue, refl, sym, ap, subst, ◌∙◌, arith, cases_Bool, cases_lt, false≢true, not-true, positive_above, if◌then◌else◌, slice_get}
use Rattle.slices.specs.Prelude.{Allowed, Apart, Bounded, choices_of, demand_of, Form, form_of, held_by, idle_slices, InRange, Instance, InTurn, is_online, IsInstance, IsKept, IsPartOf, IsPlanOf, IsValid, Keeps, kind_of, max_resources, node, Nodes, one, Ordered, PlanChoices, Powered, powered_of, progress_of, runs_elsewhere, Settled, slices_of, snapshot, Snapshot, stage_at, stages_at, state_of, Together, usable_of, vm, weigh, weight_of}
use Rattle.slices.specs.Prelude.{AnyNode, AnyOf}
use Rattle.cluster.specs.declared.{choices.Choice.Choice, choices.Choice.TheVariants.Act, choices.Choice.TheVariants.Idle, choices.Place.Place, ids.VmId.VmId, states.State.State, states.State.TheVariants.Gone, states.State.TheVariants.Init}
use Rattle.slices.specs.declared.{rule.Rule.Rule, rule.Rule.TheVariants.Constraint as OfConstraint, rule.Rule.TheVariants.Load, rule.Rule.TheVariants.Usable, slice.Weight.TheVariants.Amount, slice.Weight.TheVariants.Image, slice.Weight.TheVariants.Presence, slice.Weight.Weight, slice.What.TheVariants.Demand, slice.What.TheVariants.Raise, slice.What.TheVariants.Use, stage.Progress.Progress, stage.Stage.Stage}
use Rattle.slices.specs.Forms.{OnHost, Outside, Within}
use Rattle.catalogue.specs.declared.constraint.Constraint.{Constraint}
use Rattle.cluster.specs.declared.states.State.TheVariants.{Ready, Running, Sleeping}
use Rattle.slices.specs.declared.slice.What.TheVariants.{Image as OfImage}
use Rattle.slices.proofs.Public.{parts_keep}
use Rattle.executor.specs.Prelude.{is_ended, IsExecution, Phases, rest_stages}
use Rattle.executor.proofs.Public.{rest_keeps}
use Rattle.repair.specs.Rest.{IsRest, rest_choices}
use Rattle.repair.specs.Laws.{RestIsValid}
use Rattle.repair.proofs.EndedLemmas.{ended_holds, full}
use Rattle.repair.proofs.KeptLemmas.{kept_held, kept_machine, kept_node, kept_stage, machines_as_many, nodes_as_many, same_capacity}
use Rattle.repair.proofs.ThereLemmas.{ended_machine, ended_node, EndedMachine, IsListedWeight, online_there, runs_as_wanted, state_there, uses_no_more}

-- ---- weights

raise_adds : (p : Instance) (v : ℕ) (w : Weight) → weight_of p v w Use + weight_of p v w Raise ≡ weight_of p v w Demand
unfolding demand_of
raise_adds p v (Amount r) = omega arith
raise_adds p v Presence = refl
raise_adds p v Image = refl

same_image : (p q : Instance) (v : ℕ) (w : Weight) → weight_of q v w OfImage ≡ weight_of p v w OfImage
same_image p q v (Amount r) = refl
same_image p q v Presence = refl
same_image p q v Image = refl

nothing : (b : Bool) → ◌≡◌ {A = ℕ} (if b then 0 else 0) 0
nothing true = refl
nothing false = refl

-- an idle machine that uses nothing holds nothing
idle_nothing : (q : Instance) (v : ℕ) (w : Weight) (set : Nodes) (g : Stage) → weight_of q v w Use ≡ 0 → weight_of q v w OfImage ≡ 0 → (s : State) →
    weigh q v w (idle_slices s).source g set + weigh q v w (idle_slices s).target g set + weigh q v w (idle_slices s).image g set ≡ 0
idle_nothing q v w set g a b Init = refl
idle_nothing q v w set g a b Ready = refl
idle_nothing q v w set g a b (Running h) = rw (a, nothing (set h.0 && true)) refl
idle_nothing q v w set g a b (Sleeping h) = rw (b, nothing (set h.0 && true)) refl
idle_nothing q v w set g a b Gone = refl

-- ---- nodes: one that has booted or shut down idles as it has become

usable_there : (before now : Bool) (place : Place) (start : ℕ) (g : Stage) → now ≡ not before → usable_of now Idle g ≡ usable_of before (Act place start) full
usable_there true now place start g e = e
usable_there false now place start g e = e

powered_there : (before now : Bool) (place : Place) (start : ℕ) (g : Stage) → now ≡ not before → powered_of now Idle g ≡ powered_of before (Act place start) full
powered_there true now place start g e = e
powered_there false now place start g e = e

module _ (p : Instance) (sound : IsInstance p) (plan : PlanChoices) (is : IsPlanOf p plan) (phases : Phases) (ex : IsExecution p (choices_of plan) phases) (q : Instance) (rest : IsRest p (choices_of plan) phases q) where
  -- ---- what a machine holds that has ended

  module _ (v : ℕ) (over : IsTrue (is_ended (phases (vm v)))) (e : EndedMachine p (choices_of plan) v) where
    held_there : (w : Weight) (set : Nodes) (g : Stage) → IsListedWeight w → held_by p v w set (Act e.place e.start) full ≡ held_by q v w set Idle g
    unfolding held_by slices_of kind_of
    held_there w set g l =
        rw (e.at, state_there p (choices_of plan) phases q rest v over e)
        (ended_holds p q v w (same_image p q v w) (raise_adds p v w) set g _ _ _ e.place e.kind (runs_as_wanted p (choices_of plan) phases q rest v over e w l))

    nothing_more : (r : ℕ) (set : Nodes) (g : Stage) → max_resources ≤ r → held_by q v (Amount r) set Idle g ≡ 0
    unfolding held_by slices_of
    nothing_more r set g l = idle_nothing q v (Amount r) set g (uses_no_more p (choices_of plan) phases q rest v over e r l) refl (state_of q v)

    no_more_held : (w : Weight) (set : Nodes) (g : Stage) → held_by q v w set Idle g ≤ held_by p v w set (Act e.place e.start) full
    no_more_held (Amount r) set g =
        elim (cases_lt r max_resources) [
          | inl l ↦ omega (arith, held_there (Amount r) set g l)
          | inr l ↦ omega (arith, nothing_more r set g l)
        ]
    no_more_held Presence set g = omega (arith, held_there Presence set g tt)
    no_more_held Image set g = omega (arith, held_there Image set g tt)

  -- ---- each element at an instant

  held_part : (v : ℕ) (w : Weight) (set : Nodes) (t : ℕ) →
      held_by q v w set (rest_choices (choices_of plan) phases (vm v)) (stage_at q (vm v) (rest_choices (choices_of plan) phases (vm v)) t)
      ≤ held_by p v w set (choices_of plan (vm v)) (rest_stages p (choices_of plan) phases t (vm v))
  unfolding rest_stages stages_at
  held_part v w set t =
      elim (cases_Bool (is_ended (phases (vm v)))) [
        | inl over ↦
            let e = ended_machine p sound plan is phases ex v over in
            rw (over, e.acts) (no_more_held v over e w set (stage_at q (vm v) Idle t))
        | inr open_still ↦
            let same = kept_held p (choices_of plan) phases q rest v open_still w set (choices_of plan (vm v)) (stage_at p (vm v) (choices_of plan (vm v)) t) in
            rw (open_still, kept_stage p (choices_of plan) phases q rest (vm v) open_still (choices_of plan (vm v)) t) (omega (arith, same))
      ]

  -- what is told of a node by its present state, its choice and its stage is as before
  node_same : (f : Bool → Choice → Stage → Bool) → ((before now : Bool) (place : Place) (start : ℕ) (g : Stage) → now ≡ not before → f now Idle g ≡ f before (Act place start) full) → (n t : ℕ) →
      f (is_online q.nodes n) (rest_choices (choices_of plan) phases (node n)) (stage_at q (node n) (rest_choices (choices_of plan) phases (node n)) t)
      ≡ f (is_online p.nodes n) (choices_of plan (node n)) (rest_stages p (choices_of plan) phases t (node n))
  unfolding rest_stages stages_at
  node_same f there n t =
      elim (cases_Bool (is_ended (phases (node n)))) [
        | inl over ↦
            let e = ended_node p sound plan is phases ex n over in
            rw (over, e.acts) (there (is_online p.nodes n) (is_online q.nodes n) e.place e.start (stage_at q (node n) Idle t) (online_there p (choices_of plan) phases q rest n over e))
        | inr open_still ↦
            rw (open_still, kept_stage p (choices_of plan) phases q rest (node n) open_still (choices_of plan (node n)) t, kept_node p (choices_of plan) phases q rest n open_still) refl
      ]

  -- an action is no further than it was; what has ended is none
  action_part : (v : ℕ) (far : Progress) (t : ℕ) →
      IsTrue (progress_of far (rest_choices (choices_of plan) phases (vm v)) (stage_at q (vm v) (rest_choices (choices_of plan) phases (vm v)) t)) →
      IsTrue (progress_of far (choices_of plan (vm v)) (rest_stages p (choices_of plan) phases t (vm v)))
  unfolding rest_stages stages_at
  action_part v far t =
      elim (cases_Bool (is_ended (phases (vm v)))) [
        | inl over ↦ rw over (λ h. absurd (false≢true h))
        | inr open_still ↦ rw (open_still, kept_stage p (choices_of plan) phases q rest (vm v) open_still (choices_of plan (vm v)) t) (λ h. h)
      ]

  is_part : (t : ℕ) → IsPartOf (snapshot q (rest_choices (choices_of plan) phases) (stages_at q (rest_choices (choices_of plan) phases) t)) (snapshot p (choices_of plan) (rest_stages p (choices_of plan) phases t))
  unfolding snapshot stages_at
  is_part t = record {
    held = λ v w set. held_part v w set t;
    present = λ v set. positive_above _ _ (held_part v Presence set t);
    usable = λ n h. rw (node_same usable_of usable_there n t) h;
    powered = λ n h. rw (node_same powered_of powered_there n t) at h;
    action = λ v far. action_part v far t;
  }

  -- ---- the same rules

  -- a machine that is idle is on no other node than its host
  idle_elsewhere : (v n : ℕ) (g : Stage) → IsTrue (runs_elsewhere (state_of q v) n) → nat_lt 0 (held_by q v Presence (one n) Idle g) ≡ false
  unfolding held_by slices_of
  idle_elsewhere v n g h = at (state_of q v) h
    where
      at : (s : State) → IsTrue (runs_elsewhere s n) → nat_lt 0 (weigh q v Presence (idle_slices s).source g (one n) + weigh q v Presence (idle_slices s).target g (one n) + weigh q v Presence (idle_slices s).image g (one n)) ≡ false
      at (Running h) e = let away : (h.0 == n) ≡ false = not-true (h.0 == n) e in rw away refl
      at _ e = absurd (false≢true e)

  abbrev now : ℕ → Snapshot
  now t = snapshot q (rest_choices (choices_of plan) phases) (stages_at q (rest_choices (choices_of plan) phases) t)

  -- a machine that is to stay on its host is to stay on its new one: one that has ended idles there
  stays_on_host : (t : ℕ) (vs : List VmId) → IsKept p (now t) (Allowed vs OnHost) → IsKept q (now t) (Allowed vs OnHost)
  unfolding snapshot stages_at
  stays_on_host t vs kept v n lv ln forbidden =
      elim (cases_Bool (is_ended (phases (vm v)))) [
        | inl over ↦ rw over (idle_elsewhere v n (stage_at q (vm v) Idle t) forbidden.1)
        | inr open_still ↦
            kept v n (omega (arith, lv, machines_as_many p (choices_of plan) phases q rest)) (omega (arith, ln, nodes_as_many p (choices_of plan) phases q rest))
            (forbidden.0, rw (kept_machine p (choices_of plan) phases q rest v open_still) at forbidden.1)
      ]

  form_again : (t : ℕ) (f : Form) → IsKept p (now t) f → IsKept q (now t) f
  form_again t (Apart separation) h = rw (machines_as_many p (choices_of plan) phases q rest, nodes_as_many p (choices_of plan) phases q rest) h
  form_again t (Allowed vs (Outside ns)) h = rw (machines_as_many p (choices_of plan) phases q rest, nodes_as_many p (choices_of plan) phases q rest) h
  form_again t (Allowed vs (Within ns)) h = rw (machines_as_many p (choices_of plan) phases q rest, nodes_as_many p (choices_of plan) phases q rest) h
  form_again t (Allowed vs OnHost) h = stays_on_host t vs h
  form_again t (Together vs AnyNode) h = rw (machines_as_many p (choices_of plan) phases q rest, nodes_as_many p (choices_of plan) phases q rest) h
  form_again t (Together vs (AnyOf groups)) h = rw (machines_as_many p (choices_of plan) phases q rest, nodes_as_many p (choices_of plan) phases q rest) h
  form_again t (Ordered before last) h = h
  form_again t (InTurn vs) h = rw (machines_as_many p (choices_of plan) phases q rest) h
  form_again t (Bounded weight ns amount) h = rw (machines_as_many p (choices_of plan) phases q rest) h
  form_again t (Powered ns amount) h = rw (nodes_as_many p (choices_of plan) phases q rest) h
  form_again t Settled h = tt

  keeps_again : (t : ℕ) (last : Bool) (r : Rule) → Keeps p (now t) last r → Keeps q (now t) last r
  keeps_again t last (Load n r) h = rw (machines_as_many p (choices_of plan) phases q rest, same_capacity p (choices_of plan) phases q rest n.0 r) h
  keeps_again t last (Usable v n) h = h
  keeps_again t last (OfConstraint c) h = λ a k e.
      let same : slice_get p.constraints c ≡ Some k = ap (λ (cs : List Constraint). slice_get cs c) (sym rest.constraints) ∙ e in
      form_again t (form_of k) (h (rw rest.constraints at a) k same)

  in_range_again : (r : Rule) → InRange q r → InRange p r
  in_range_again (Load n r) i = (rw (nodes_as_many p (choices_of plan) phases q rest) at i.0, rw rest.resources at i.1)
  in_range_again (Usable v n) i = (rw (machines_as_many p (choices_of plan) phases q rest) at i.0, rw (nodes_as_many p (choices_of plan) phases q rest) at i.1)
  in_range_again (OfConstraint c) i = rw rest.constraints at i

pub rest_is_valid : RestIsValid
unfolding IsValid
rest_is_valid p sound plan is valid phases ex q rest t within r i =
    let s = now p sound plan is phases ex q rest t in
    let big = snapshot p (choices_of plan) (rest_stages p (choices_of plan) phases t) in
    let old = rest_keeps p sound plan is valid phases ex t (rw rest.horizon at within) r (in_range_again p sound plan is phases ex q rest r i) in
    let kept = parts_keep p s big (is_part p sound plan is phases ex q rest t) (t == p.horizon) r old in
    subst (λ (k : ℕ). Keeps q s (t == k) r) (sym rest.horizon) (keeps_again p sound plan is phases ex q rest t (t == p.horizon) r kept)
