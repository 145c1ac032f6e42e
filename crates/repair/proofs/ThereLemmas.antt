-- What has ended, in the old problem and in the one that is left.
use Rattle.base.proofs.Public.{◌≡◌, inl, inr, ℕ, zero, suc, ◌<◌, ◌≤◌, Bool, true, false, not, List, [], ◌∷◌, length, Option, Some, None, is_some, IsSome, IsTrue, refl, sym, ap, subst, ◌∙◌, arith, and_parts, eqb-true, false≢true, if◌then◌else◌, option_map, slice_get, get_or_past, get_or-map-range_with_len, length-map-range_with_len, slice_get_cases}
use Rattle.slices.specs.Prelude.{Choices, choices_of, demand_of, has_places, Instance, is_legal, is_online, is_place, is_raised, IsInstance, IsPlanOf, kind_of, machine_count, machine_kind, max_resources, node, node_kind, PlanChoices, state_in, state_of, use_of, vm, wanted_of, wanted_state}
use Rattle.cluster.specs.declared.{choices.Choice.TheVariants.Act, choices.Choice.TheVariants.Idle, choices.Place.Place, kinds.Kind.Kind, machines.Machine.Machine, states.State.State}
use Rattle.slices.specs.declared.{slice.Weight.TheVariants.Amount, slice.Weight.TheVariants.Image, slice.Weight.TheVariants.Presence, slice.Weight.Weight}
use Rattle.catalogue.specs.Values.{amount_of}
use Rattle.cluster.specs.declared.nodes.Node.{Node}
use Rattle.cluster.specs.declared.states.State.TheVariants.{Running}
use Rattle.executor.specs.Prelude.{is_ended, IsExecution, Phases}
use Rattle.executor.proofs.Public.{acts, ended_acts, lasts_in, some_action}
use Rattle.repair.specs.Rest.{done_choices, in_state, IsRest, machine_after, node_after, state_after, use_after}
use Rattle.repair.proofs.EndedLemmas.{RunsAsWanted}

-- ---- in the old problem

pub some_at : {A : Type 0} (xs : List A) (i : ℕ) → i < length xs → (x : A) × (slice_get xs i ≡ Some x)
some_at [] i l = absurd (omega arith)
some_at (x ∷ xs) zero l = (x, refl)
some_at (x ∷ xs) (suc i) l = some_at xs i (omega arith)

placed : (b : Bool) (k : Option Kind) → IsTrue (is_some (if b then k else None)) → (b ≡ true) × IsSome k
placed true k h = (refl, h)
placed false k h = absurd (false≢true h)

-- a legal action of a machine is at a place of the instance, and has a kind
pub machine_acts : (p : Instance) (v : ℕ) (place : Place) (start : ℕ) → IsTrue (is_legal p (vm v) (Act place start)) →
    (is_place p place ≡ true) × IsSome (machine_kind (state_of p v) (wanted_state p v) (is_raised p v) place)
unfolding is_legal kind_of
machine_acts p v place start legal = placed (is_place p place) (machine_kind (state_of p v) (wanted_state p v) (is_raised p v) place) (and_parts _ _ legal).0

kind_there : (p : Instance) (v : ℕ) (place : Place) → is_place p place ≡ true → kind_of p (vm v) place ≡ machine_kind (state_of p v) (wanted_state p v) (is_raised p v) place
unfolding kind_of
kind_there p v place at = rw at refl

node_acts : (p : Instance) (n : ℕ) (place : Place) (start : ℕ) → IsTrue (is_legal p (node n) (Act place start)) → IsSome (node_kind (is_online p.nodes n) (wanted_of p (node n)) place)
unfolding is_legal kind_of
node_acts p n place start legal = (and_parts _ _ legal).0

-- a machine whose action has ended: what it was, and its action
pub record EndedMachine (p : Instance) (plan : Choices) (v : ℕ) : Type 0 where
  pub machine : Machine
  pub there : slice_get p.machines v ≡ Some machine
  pub places : length machine.usage ≡ max_resources
  pub place : Place
  pub start : ℕ
  pub acts : plan (vm v) ≡ Act place start
  pub at : is_place p place ≡ true
  pub kind : IsSome (machine_kind (state_of p v) (wanted_state p v) (is_raised p v) place)
  pub of_kind : kind_of p (vm v) place ≡ machine_kind (state_of p v) (wanted_state p v) (is_raised p v) place

-- a node whose action has ended
pub record EndedNode (p : Instance) (plan : Choices) (n : ℕ) : Type 0 where
  pub was : Node
  pub there : slice_get p.nodes n ≡ Some was
  pub place : Place
  pub start : ℕ
  pub acts : plan (node n) ≡ Act place start
  pub kind : IsSome (node_kind (is_online p.nodes n) (wanted_of p (node n)) place)

module _ (p : Instance) (sound : IsInstance p) (plan : PlanChoices) (is : IsPlanOf p plan) (phases : Phases) (ex : IsExecution p (choices_of plan) phases) where
  machine_at : (v : ℕ) → v < machine_count p → (m : Machine) × (slice_get p.machines v ≡ Some m) × (length m.usage ≡ max_resources)
  machine_at v l =
      elim (slice_get_cases p.machines v).1 [
        | inl x ↦
            let places = sound.inventory.machines_have_places v x.0 l in
            (x.0, x.2, eight x.0 (subst (λ (m : Machine). has_places m.usage m.own ≡ true) x.3 places))
        | inr past ↦ absurd (omega (arith, l, past.0))
      ]
    where
      eight : (m : Machine) → has_places m.usage m.own ≡ true → length m.usage ≡ max_resources
      eight m h = eqb-true (length m.usage) max_resources (and_parts _ _ h).0

  pub ended_machine : (v : ℕ) → IsTrue (is_ended (phases (vm v))) → EndedMachine p (choices_of plan) v
  ended_machine v over =
      let c = acts (choices_of plan (vm v)) (some_action p (choices_of plan) phases ex (vm v) (ended_acts (phases (vm v)) over).1) in
      let act = lasts_in p sound plan is (vm v) c.place c.start c.is in
      let legal : IsTrue (is_legal p (vm v) (Act c.place c.start)) = subst (λ k. IsTrue (is_legal p (vm v) k)) c.is (is.legal (vm v) act.listed) in
      let m = machine_at v act.listed in
      let kind = machine_acts p v c.place c.start legal in
      record { machine = m.0; there = m.1; places = m.2; place = c.place; start = c.start; acts = c.is; at = kind.0; kind = kind.1; of_kind = kind_there p v c.place kind.0 }

  pub ended_node : (n : ℕ) → IsTrue (is_ended (phases (node n))) → EndedNode p (choices_of plan) n
  ended_node n over =
      let c = acts (choices_of plan (node n)) (some_action p (choices_of plan) phases ex (node n) (ended_acts (phases (node n)) over).1) in
      let act = lasts_in p sound plan is (node n) c.place c.start c.is in
      let legal : IsTrue (is_legal p (node n) (Act c.place c.start)) = subst (λ k. IsTrue (is_legal p (node n) k)) c.is (is.legal (node n) act.listed) in
      let x = some_at p.nodes n act.listed in
      record { was = x.0; there = x.1; place = c.place; start = c.start; acts = c.is; kind = node_acts p n c.place c.start legal }

-- ---- in the problem that is left

length-use_after : (p : Instance) (v : ℕ) (s : State) (usage : List ℕ) → length usage ≡ max_resources → length (use_after p v s usage) ≡ max_resources
length-use_after p v (Running h) usage e = length-map-range_with_len (demand_of p v) 0 max_resources
length-use_after p v _ usage e = e

-- a weight other than the amount of a resource that no problem can list
abbrev pub IsListedWeight : Weight → Type 0
IsListedWeight (Amount r) = r < max_resources
IsListedWeight Presence = Unit {0}
IsListedWeight Image = Unit {0}

-- a machine that runs uses its demand
used_there : (p q : Instance) (v : ℕ) (m : Machine) (s : State) → slice_get q.machines v ≡ Some (in_state p v s m) → (w : Weight) → IsListedWeight w → RunsAsWanted p q v w s
used_there p q v m (Running h) there (Amount r) l =
    ap (λ (o : Option Machine). amount_of o r) there ∙ get_or-map-range_with_len (demand_of p v) 0 max_resources r r 0 l (omega arith)
used_there p q v m (Running h) there Presence l = refl
used_there p q v m (Running h) there Image l = refl
used_there p q v m _ there w l = tt

module _ (p : Instance) (plan : Choices) (phases : Phases) (q : Instance) (rest : IsRest p plan phases q) where
  module _ (v : ℕ) (over : IsTrue (is_ended (phases (vm v)))) (e : EndedMachine p plan v) where
    abbrev pub after : State
    after = state_after (state_of p v) (machine_kind (state_of p v) (wanted_state p v) (is_raised p v) e.place) e.place

    machine_there : slice_get q.machines v ≡ Some (in_state p v after e.machine)
    machine_there =
        rest.machines v ∙ ap (option_map (machine_after p v (done_choices plan phases (vm v)))) e.there
        ∙ (λ i. Some (machine_after p v (if over i then e.acts i else Idle) e.machine))
        ∙ (λ i. Some (in_state p v (state_after (sym (ap state_in e.there) i) (e.of_kind i) e.place) e.machine))

    pub state_there : state_of q v ≡ after
    state_there = ap state_in machine_there

    pub runs_as_wanted : (w : Weight) → IsListedWeight w → RunsAsWanted p q v w after
    runs_as_wanted = used_there p q v e.machine after machine_there

    pub uses_no_more : (r : ℕ) → max_resources ≤ r → use_of q.machines v r ≡ 0
    uses_no_more r l =
        ap (λ (o : Option Machine). amount_of o r) machine_there
        ∙ get_or_past (use_after p v after e.machine.usage) r 0 (omega (arith, length-use_after p v after e.machine.usage e.places, l))

  pub online_there : (n : ℕ) → IsTrue (is_ended (phases (node n))) → EndedNode p plan n → is_online q.nodes n ≡ not (is_online p.nodes n)
  online_there n over e =
      let now : slice_get q.nodes n ≡ Some (node_after (Act e.place e.start) e.was) =
      rest.nodes n ∙ ap (option_map (node_after (done_choices plan phases (node n)))) e.there ∙ (λ i. Some (node_after (if over i then e.acts i else Idle) e.was))
      in
      rw (now, e.there) refl
