-- The hosts of the problem that is left are online: each machine stands on its host at the first instant of the plan that is left, which is
-- valid, so that the host is usable there; and what is usable at first is online.
use Rattle.base.proofs.Public.{◌≡◌, inl, inr, ℕ, ◌+◌, ◌<◌, Bool, true, false, ◌||◌, nat_lt, Option, Some, IfSome, IsTrue, refl, sym, ap, subst, ◌∙◌, arith, cases_Bool, lt-leb, false≢true, ltb-true, slice_get_cases}
use Rattle.slices.specs.Prelude.{action_duration, Choices, choices_of, host_is_online, host_of, Instance, is_legal, is_online, is_place, IsInstance, IsPlanOf, IsValid, kind_of, machine_count, held_by, node, node_count, one, PlanChoices, slices_of, snapshot, Snapshot, stage_at, stages_at, stands_on, state_in, state_of, usable_of, vm, wanted_state, is_raised}
use Rattle.cluster.specs.declared.{choices.Choice.Choice, choices.Choice.TheVariants.Act, choices.Choice.TheVariants.Idle, choices.Place.Place, ids.Element.Element, ids.NodeId.NodeId, machines.Machine.Machine, states.State.State, states.State.TheVariants.Gone, states.State.TheVariants.Init}
use Rattle.slices.specs.declared.{rule.Rule.TheVariants.Usable, slice.Weight.TheVariants.Image, slice.Weight.TheVariants.Presence}
use Rattle.cluster.specs.declared.states.State.TheVariants.{Ready, Running, Sleeping}
use Rattle.cluster.proofs.Public.{is_online-lt}
use Rattle.executor.specs.Prelude.{is_ended, IsExecution, Phases}
use Rattle.executor.proofs.Public.{lasts_in}
use Rattle.repair.specs.Rest.{IsRest, rest_choices}
use Rattle.repair.specs.Laws.{RestHosts}
use Rattle.repair.proofs.EndedLemmas.{acts_on, host_from, idles_on}
use Rattle.repair.proofs.KeptLemmas.{kept_duration, kept_machine, machines_as_many, nodes_as_many}
use Rattle.repair.proofs.LegalLemmas.{rest_is_plan}
use Rattle.repair.proofs.PartLemmas.{rest_is_valid}
use Rattle.repair.proofs.ThereLemmas.{after, ended_machine, machine_acts, state_there}

-- ---- hosts of the old problem

online_host : (p : Instance) (s : State) (h : NodeId) → host_of s ≡ Some h → IsTrue (host_is_online p.nodes s) → h.0 < node_count p
online_host p s h e online = is_online-lt p.nodes h.0 (subst (λ (o : Option NodeId). IfSome o (λ h. is_online p.nodes h.0 ≡ true)) e (at s online))
  where
    at : (s : State) → IsTrue (host_is_online p.nodes s) → IfSome (host_of s) (λ h. is_online p.nodes h.0 ≡ true)
    at Init online = tt
    at Ready online = tt
    at (Running h) online = online
    at (Sleeping h) online = online
    at Gone online = tt

host_before : (p : Instance) → IsInstance p → (v : ℕ) (h : NodeId) → v < machine_count p → host_of (state_of p v) ≡ Some h → h.0 < node_count p
host_before p sound v h l e =
    elim (slice_get_cases p.machines v).1 [
      | inl x ↦
          let online = subst (λ (m : Machine). IsTrue (host_is_online p.nodes m.state)) x.3 (sound.inventory.hosts v x.0 l) in
          online_host p x.0.state h (ap host_of (sym (ap state_in x.2)) ∙ e) online
      | inr past ↦ absurd (omega (arith, l, past.0))
    ]

module _ (p : Instance) (sound : IsInstance p) (plan : PlanChoices) (is : IsPlanOf p plan) (phases : Phases) (ex : IsExecution p (choices_of plan) phases) (q : Instance) (rest : IsRest p (choices_of plan) phases q) where
  abbrev left : Choices
  left = rest_choices (choices_of plan) phases

  -- a host of the new problem is a node of it: it was a host, or it is the place of an action
  host_within : (v : ℕ) (h : NodeId) → v < machine_count q → host_of (state_of q v) ≡ Some h → h.0 < node_count q
  host_within v h l e =
      let listed : v < machine_count p = omega (arith, l, machines_as_many p (choices_of plan) phases q rest) in
      let before : h.0 < node_count p =
      elim (cases_Bool (is_ended (phases (vm v)))) [
        | inr open_still ↦ host_before p sound v h listed (ap (λ (o : Option Machine). host_of (state_in o)) (sym (kept_machine p (choices_of plan) phases q rest v open_still)) ∙ e)
        | inl over ↦
            let x = ended_machine p sound plan is phases ex v over in
            let new : host_of (after p (choices_of plan) phases q rest v over x) ≡ Some h = ap host_of (sym (state_there p (choices_of plan) phases q rest v over x)) ∙ e in
            elim (host_from (state_of p v) (wanted_state p v) (is_raised p v) x.place x.kind h new) [
              | inl there ↦ ltb-true h.0 (node_count p) (sym (ap (is_place p) there) ∙ x.at)
              | inr was ↦ host_before p sound v h listed was
            ]
      ]
      in
      omega (arith, before, nodes_as_many p (choices_of plan) phases q rest)

  -- ---- at the first instant

  -- no action that is left has ended
  unended_at_first : (e : Element) (place : Place) (start : ℕ) → left e ≡ Act place start → (stage_at q e (Act place start) 0).ended ≡ false
  unfolding stage_at
  unended_at_first e place start acts =
      elim (cases_Bool (is_ended (phases e))) [
        | inl over ↦ let none : Idle ≡ Act place start = rw over at acts in absurd (cc)
        | inr open_still ↦
            let old : choices_of plan e ≡ Act place start = rw open_still at acts in
            let act = lasts_in p sound plan is e place start old in
            let long : action_duration q e place ≡ action_duration p e place = kept_duration p (choices_of plan) phases q rest e open_still place in
            lt-leb (start + action_duration q e place) 0 (omega (arith, act.lasts, long))
      ]

  abbrev first : Snapshot
  first = snapshot q left (stages_at q left 0)

  -- what is usable is online
  usable_is_online : (n : ℕ) → IsTrue (first.usable n) → is_online q.nodes n ≡ true
  unfolding snapshot stages_at
  usable_is_online n usable = at (is_online q.nodes n) (left (node n)) refl usable
    where
      at : (online : Bool) (c : Choice) → left (node n) ≡ c → IsTrue (usable_of online c (stage_at q (node n) c 0)) → online ≡ true
      at online Idle e usable = usable
      at true (Act place start) e usable = refl
      at false (Act place start) e usable = absurd (false≢true (sym (unended_at_first (node n) place start e) ∙ usable))

  -- a machine stands on its host: idle it does, and it does until its action has ended
  stands_on_host : (valid : IsValid p (choices_of plan)) (v : ℕ) (h : NodeId) → v < machine_count q → host_of (state_of q v) ≡ Some h → IsTrue (stands_on first v h.0)
  unfolding snapshot stages_at held_by slices_of kind_of
  stands_on_host valid v h l e = at (left (vm v)) refl
    where
      at : (c : Choice) → left (vm v) ≡ c →
          (nat_lt 0 (held_by q v Presence (one h.0) (left (vm v)) (stage_at q (vm v) (left (vm v)) 0)) || nat_lt 0 (held_by q v Image (one h.0) (left (vm v)) (stage_at q (vm v) (left (vm v)) 0))) ≡ true
      at Idle idle = rw idle (idles_on q v (stage_at q (vm v) Idle 0) (state_of q v) h e)
      at (Act place start) acts =
          let legal : IsTrue (is_legal q (vm v) (Act place start)) = subst (λ k. IsTrue (is_legal q (vm v) k)) acts (rest_is_plan p sound plan is valid phases ex q rest (vm v) l) in
          let kind = machine_acts q v place start legal in
          rw (acts, kind.0)
          (acts_on q v (stage_at q (vm v) (Act place start) 0) (unended_at_first (vm v) place start acts) (state_of q v) (wanted_state q v) (is_raised q v) place kind.1 h e)

  host_online : IsValid p (choices_of plan) → (v : ℕ) (h : NodeId) → v < machine_count q → host_of (state_of q v) ≡ Some h → is_online q.nodes h.0 ≡ true
  unfolding IsValid
  host_online valid v h l e =
      usable_is_online h.0 (rest_is_valid p sound plan is valid phases ex q rest 0 (omega arith) (Usable (record { 0 = v }) h) (l, host_within v h l e) (stands_on_host valid v h l e))

pub rest_hosts : RestHosts
rest_hosts p sound plan is valid phases ex q rest v l = at (state_of q v) refl
  where
    at : (s : State) → state_of q v ≡ s → IsTrue (host_is_online q.nodes s)
    at Init e = refl
    at Ready e = refl
    at (Running h) e = host_online p sound plan is phases ex q rest valid v h l (ap host_of e)
    at (Sleeping h) e = host_online p sound plan is phases ex q rest valid v h l (ap host_of e)
    at Gone e = refl
