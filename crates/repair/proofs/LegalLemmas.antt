-- The choices that are left are legal in the problem that is left: what has ended may idle, and all else is legal as before.
use Rattle.base.proofs.Public.{◌≡◌, inl, inr, ℕ, ◌<◌, ◌≤◌, Bool, false, not, max, length, IsTrue, refl, ap, ◌∙◌, arith, cases_Bool, eq-eqb, get_or, get_or-range_with_len, length-range_with_len, list_any, list_any_none, range_with_len}
use Rattle.slices.specs.Prelude.{Choices, choices_of, demand_of, differs_in, end_of, end_wish, Instance, is_legal, is_raised, IsElement, IsInstance, IsPlan, IsPlanOf, max_resources, may_idle, may_machine_idle, node, PlanChoices, preserved_of, state_in, state_of, use_of, vm, wanted_of}
use Rattle.cluster.specs.declared.{choices.Choice.Choice, choices.Choice.TheVariants.Act, choices.Choice.TheVariants.Idle, ids.Element.Element, ids.Element.TheVariants.Node as TheNode, ids.Element.TheVariants.Vm, states.State.State, states.State.TheVariants.Gone, states.State.TheVariants.Init}
use Rattle.slices.specs.declared.{slice.Weight.TheVariants.Amount}
use Rattle.cluster.specs.declared.states.State.TheVariants.{Ready, Running, Sleeping}
use Rattle.executor.specs.Prelude.{is_ended, IsExecution, Phases}
use Rattle.repair.specs.Rest.{IsRest, rest_choices}
use Rattle.repair.specs.Laws.{RestIsPlan}
use Rattle.repair.proofs.EndedLemmas.{IsNotRaised, may_idle_there, node_may_idle, RunsAsWanted}
use Rattle.repair.proofs.KeptLemmas.{kept_duration, kept_kind, kept_machine, kept_node, kept_raised, machines_as_many, nodes_as_many, same_preserved, same_wanted}
use Rattle.repair.proofs.ThereLemmas.{after, ended_machine, ended_node, EndedMachine, online_there, runs_as_wanted, state_there}

none_of_range : (test : ℕ → Bool) (n : ℕ) → ((k : ℕ) → k < n → test k ≡ false) → list_any test (range_with_len 0 n) ≡ false
none_of_range test n none =
    list_any_none test (range_with_len 0 n) (λ i d lt.
    let l : i < n = omega (arith, lt, length-range_with_len 0 n) in
    let here : get_or (range_with_len 0 n) i d ≡ i = omega (arith, get_or-range_with_len 0 n i d l) in
    ap test here ∙ none i l)

module _ (p : Instance) (plan : Choices) (phases : Phases) (q : Instance) (rest : IsRest p plan phases q) where
  -- ---- all else

  kept_legal : (e : Element) → is_ended (phases e) ≡ false → (c : Choice) → is_legal q e c ≡ is_legal p e c
  unfolding is_legal may_idle end_of
  kept_legal (Vm v) h Idle = λ i.
      may_machine_idle (state_in (kept_machine p plan phases q rest v.0 h i)) (end_wish (state_in (kept_machine p plan phases q rest v.0 h i)) (same_wanted p plan phases q rest (Vm v) i)) (kept_raised p plan phases q rest v.0 h i)
  kept_legal (TheNode n) h Idle = rw (kept_node p plan phases q rest n.0 h, same_wanted p plan phases q rest (TheNode n)) refl
  kept_legal e h (Act place start) = rw (kept_kind p plan phases q rest e h place, kept_duration p plan phases q rest e h place, rest.horizon) refl

  -- ---- what has ended

  -- where a machine uses its demand, no more is preserved for it
  no_raise : (v : ℕ) (s : State) → ((r : ℕ) → r < max_resources → RunsAsWanted p q v (Amount r) s) → length q.resources ≤ max_resources → IsNotRaised (is_raised q v) s
  unfolding demand_of
  no_raise v Init uses few = tt
  no_raise v Ready uses few = tt
  no_raise v (Running h) uses few =
      none_of_range (differs_in q v) (length q.resources) (λ r l.
      let used : use_of q.machines v r ≡ max (use_of p.machines v r) (preserved_of p v r) = uses r (omega (arith, l, few)) in
      let wants : max (use_of q.machines v r) (preserved_of q v r) ≡ use_of q.machines v r = omega (arith, used, same_preserved p plan phases q rest v r) in
      ap not (eq-eqb _ _ wants))
  no_raise v (Sleeping h) uses few = tt
  no_raise v Gone uses few = tt

  machine_idles : (v : ℕ) → IsTrue (is_ended (phases (vm v))) → EndedMachine p plan v → length q.resources ≤ max_resources → IsTrue (may_idle q (vm v))
  unfolding may_idle
  machine_idles v over e few =
      rw (state_there p plan phases q rest v over e, same_wanted p plan phases q rest (vm v))
      (may_idle_there (is_raised q v) (state_of p v) (wanted_of p (vm v)) (is_raised p v) e.place e.kind (no_raise v (after p plan phases q rest v over e) (λ r l. runs_as_wanted p plan phases q rest v over e (Amount r) l) few))

listed_before : (p : Instance) (plan : Choices) (phases : Phases) (q : Instance) → IsRest p plan phases q → (e : Element) → IsElement q e → IsElement p e
listed_before p plan phases q rest (Vm v) l = omega (arith, l, machines_as_many p plan phases q rest)
listed_before p plan phases q rest (TheNode n) l = omega (arith, l, nodes_as_many p plan phases q rest)

module _ (p : Instance) (sound : IsInstance p) (plan : PlanChoices) (is : IsPlanOf p plan) (phases : Phases) (ex : IsExecution p (choices_of plan) phases) (q : Instance) (rest : IsRest p (choices_of plan) phases q) where
  node_idles : (n : ℕ) → IsTrue (is_ended (phases (node n))) → IsTrue (may_idle q (node n))
  unfolding may_idle
  node_idles n over =
      let e = ended_node p sound plan is phases ex n over in
      rw (online_there p (choices_of plan) phases q rest n over e, same_wanted p (choices_of plan) phases q rest (node n)) (node_may_idle _ _ e.place e.kind)

  idles : (e : Element) → IsTrue (is_ended (phases e)) → IsTrue (is_legal q e Idle)
  unfolding is_legal
  idles (Vm v) over =
      let few : length q.resources ≤ max_resources = omega (arith, ap length rest.resources, sound.inventory.few_resources) in
      machine_idles p (choices_of plan) phases q rest v.0 over (ended_machine p sound plan is phases ex v.0 over) few
  idles (TheNode n) over = node_idles n.0 over

  legal_again : IsPlan q (rest_choices (choices_of plan) phases)
  legal_again e listed =
      elim (cases_Bool (is_ended (phases e))) [
        | inl over ↦ rw over (idles e over)
        | inr open_still ↦
            rw open_still
            (kept_legal p (choices_of plan) phases q rest e open_still (choices_of plan e) ∙ is.legal e (listed_before p (choices_of plan) phases q rest e listed))
      ]

pub rest_is_plan : RestIsPlan
rest_is_plan p sound plan is valid phases ex q rest = legal_again p sound plan is phases ex q rest
