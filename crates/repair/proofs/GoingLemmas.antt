-- What the call makes: a problem that is what is left, and a plan of it with the choices that are left.
use Rattle.base.proofs.Public.{◌≡◌, ◌≢◌, inl, inr, ℕ, ◌+◌, ◌<◌, ◌≤◌, List, [], ◌∷◌, ◌++◌, length, take, drop, Some, is_some, IsNone, IsTrue, true, get_or_from_slice_get, refl, sym, ap, subst, ◌∙◌, ◌-◌, arith, and_parts, cases_Bool, cases_lt, ext_get_or, get_or, get_or-append_seam, get_or-drop, get_or-map-range_with_len, get_or-take, get_or_append_left, get_or_past, le-ltb, length-append, length-drop, length-map-range_with_len, length-take-le, lt-ltb, map, option_map, range_with_len, slice_get, slice_index_or}
use Rattle.std.proofs.lemmas.List.{get_or_push}
use Rattle.std.proofs.lemmas.Option.{slice_get-get_or, slice_get_past}
use Rattle.slices.specs.Prelude.{amounts_fit, choices_of, cost_of, demand_of, element_at, element_count, element_number, Instance, inventory_of, is_legal, IsElement, IsInstance, IsPlanOf, IsValid, machine_count, machine_fits, max_resources, node, node_count, parted, PlanChoices, SoundInstance, start_of, vm}
use Rattle.cluster.specs.declared.{choices.Choice.Choice, choices.Choice.TheVariants.Idle, ids.Element.Element, ids.Element.TheVariants.Node as TheNode, ids.Element.TheVariants.Vm, machines.Machine.Machine}
use Rattle.cluster.specs.declared.nodes.Node.{Node}
use Rattle.cluster.proofs.Public.{element_at-element_number, element_number-lt}
use Rattle.slices.proofs.Public.{past-idle}
use Rattle.executor.specs.Prelude.{is_ended, IsExecution, IsFirst, Phases}
use Rattle.executor.specs.Views.{Execution, IsMonitor, phases_of}
use Rattle.executor.specs.declared.phase.Phase.TheVariants.{None as NoAction, Running}
use Rattle.executor.proofs.Public.{first_element}
use Rattle.repair.specs.Rest.{AreChanged, done_choices, IsGoingOn, IsRest, machine_after, node_after, rest_choices}
use Rattle.repair.proofs.{CostLemmas.rest_costs, KeptLemmas.machines_as_many, KeptLemmas.nodes_as_many, LegalLemmas.rest_is_plan, PartLemmas.rest_is_valid, SoundLemmas.demand_past, SoundLemmas.rest_is_sound, ThereLemmas.some_at}

-- ---- what the monitor of a problem and a plan knows

pub record IsKnown (p : Instance) (plan : PlanChoices) (phases : Phases) : Type 0 where
  pub whole : IsPlanOf p plan
  pub valid : IsValid p (choices_of plan)
  pub execution : IsExecution p (choices_of plan) phases

pub known_of : (m : Execution) (p : SoundInstance) (plan : PlanChoices) → m.problem ≡ p → m.plan ≡ plan → IsMonitor m → IsKnown p.given plan (phases_of m)
known_of m p plan one same known = record {
  whole = subst (λ (x : SoundInstance). IsPlanOf x.given plan) one (subst (λ (c : PlanChoices). IsPlanOf m.problem.given c) same known.plan);
  valid = subst (λ (x : SoundInstance). IsValid x.given (choices_of plan)) one (subst (λ (c : PlanChoices). IsValid m.problem.given (choices_of c)) same known.valid);
  execution = subst (λ (x : SoundInstance). IsExecution x.given (choices_of plan) (phases_of m)) one (subst (λ (c : PlanChoices). IsExecution m.problem.given (choices_of c) (phases_of m)) same known.execution);
}

-- ---- the first element whose action runs

module _ (p : Instance) (plan : PlanChoices) (is : IsPlanOf p plan) (phases : Phases) (ex : IsExecution p (choices_of plan) phases) where
  -- what is so far is listed
  far_is_listed : (e : Element) → phases e ≢ NoAction → IsElement p e
  far_is_listed e far =
      elim (past-idle p plan is e) [
        | inl there ↦ there
        | inr idle ↦
            let none : IsNone (start_of (choices_of plan e)) = ap (λ (c : Choice). is_some (start_of c)) idle in
            absurd (far ((ex.idle e).1 none))
      ]

  pub none_runs : ((y : ℕ) → y < element_count (inventory_of p) → phases (element_at (inventory_of p) y) ≢ Running) → (e : Element) → phases e ≢ Running
  none_runs none e runs =
      let listed = far_is_listed e (λ h. cc) in
      none (element_number (inventory_of p) e) (element_number-lt (inventory_of p) e listed) (ap phases (element_at-element_number (inventory_of p) e listed) ∙ runs)

pub first_runs : (p : Instance) (phases : Phases) (x : ℕ) → x < element_count (inventory_of p) → phases (element_at (inventory_of p) x) ≡ Running →
    ((y : ℕ) → y < x → phases (element_at (inventory_of p) y) ≢ Running) → IsFirst p (λ e. phases e ≡ Running) (element_at (inventory_of p) x)
first_runs p phases x low runs none =
    first_element p (λ y. phases (element_at (inventory_of p) y) ≡ Running) (λ e. phases e ≡ Running)
    (λ e listed. let same = ap phases (element_at-element_number (inventory_of p) e listed) in ((λ h. same ∙ h), (λ h. sym same ∙ h))) x low runs none

-- ---- lists of what has changed

module _ {A : Type 0} (change : ℕ → A → A) (old : List A) where
  -- so far as a list has come, it has the changed items
  abbrev pub AreChangedBelow : ℕ → List A → Type 0
  AreChangedBelow n new = (i : ℕ) → i < n → slice_get new i ≡ option_map (change i) (slice_get old i)

  before_last : (xs : List A) (x : A) (i : ℕ) → i < length xs → slice_get (xs ++ x ∷ []) i ≡ slice_get xs i
  before_last xs x i low =
      slice_get-get_or (xs ++ x ∷ []) i x (omega (arith, length-append xs (x ∷ []))) ∙ ap (λ (y : A). Some y) (get_or_append_left xs (x ∷ []) x i low) ∙ sym (slice_get-get_or xs i x low)

  last_item : (xs : List A) (x : A) → slice_get (xs ++ x ∷ []) (length xs) ≡ Some x
  last_item xs x = slice_get-get_or (xs ++ x ∷ []) (length xs) x (omega (arith, length-append xs (x ∷ []))) ∙ ap (λ (y : A). Some y) (get_or-append_seam xs x [] x)

  pub one_more_changed : (new : List A) (x : A) (n : ℕ) → length new ≡ n → AreChangedBelow n new → option_map (change n) (slice_get old n) ≡ Some x → AreChangedBelow (n + 1) (new ++ x ∷ [])
  one_more_changed new x n count below this i low =
      elim (cases_lt i n) [
        | inl earlier ↦ before_last new x i (omega (arith, count, earlier)) ∙ below i earlier
        | inr past ↦
            let last : n ≡ i = omega (arith, low, past) in
            subst (λ (k : ℕ). slice_get (new ++ x ∷ []) k ≡ option_map (change k) (slice_get old k)) last (subst (λ (k : ℕ). slice_get (new ++ x ∷ []) k ≡ Some x) count (last_item new x) ∙ sym this)
      ]

  pub all_changed : (new : List A) → length new ≡ length old → AreChangedBelow (length old) new → AreChanged change old new
  all_changed new count below i =
      elim (cases_lt i (length old)) [
        | inl low ↦ below i low
        | inr past ↦ slice_get_past new i (omega (arith, count, past)) ∙ ap (option_map (change i)) (sym (slice_get_past old i past))
      ]

-- one more choice
pub one_more_choice : (wanted : ℕ → Choice) (new : List Choice) (c : Choice) (n : ℕ) → length new ≡ n → ((y : ℕ) → y < n → slice_index_or new y Idle ≡ wanted y) → c ≡ wanted n →
    (y : ℕ) → y < n + 1 → slice_index_or (new ++ c ∷ []) y Idle ≡ wanted y
one_more_choice wanted new c n count below this y low =
    elim (cases_lt y n) [
      | inl earlier ↦ get_or_append_left new (c ∷ []) Idle y (omega (arith, count, earlier)) ∙ below y earlier
      | inr past ↦
          let last : n ≡ y = omega (arith, low, past) in
          get_or_push new c Idle y (count ∙ last) ∙ this ∙ ap wanted last
    ]

-- ---- demands

-- a table with the demands for what is listed, and with nothing past that, has all demands
pub all_demands : (p : Instance) → IsInstance p → (v : ℕ) → v < machine_count p → (usage : List ℕ) → length usage ≡ max_resources →
    ((r : ℕ) → r < length p.resources → get_or usage r 0 ≡ demand_of p v r) → ((r : ℕ) → length p.resources ≤ r → get_or usage r 0 ≡ 0) → usage ≡ map (demand_of p v) (range_with_len 0 max_resources)
all_demands p sound v low usage count listed past =
    ext_get_or 0 usage (map (demand_of p v) (range_with_len 0 max_resources)) (count ∙ sym (length-map-range_with_len (demand_of p v) 0 max_resources)) at
  where
    of_place : (r : ℕ) → get_or usage r 0 ≡ demand_of p v r
    of_place r =
        elim (cases_lt r (length p.resources)) [
          | inl l ↦ listed r l
          | inr l ↦
              let m = some_at p.machines v low in
              let fits : amounts_fit (length p.resources) m.0.usage ≡ true = (and_parts _ _ (fit_at m.0 m.1)).0 in
              past r l ∙ sym (demand_past p sound v r m.0 m.1 fits l)
        ]
      where
        fit_at : (m : Machine) → slice_get p.machines v ≡ Some m → machine_fits (length p.resources) m ≡ true
        fit_at m there = subst (λ (m : Machine). machine_fits (length p.resources) m ≡ true) (get_or_from_slice_get p.machines v m m there) (sound.inventory.machines_fit v m low)

    at : (r : ℕ) → r < length usage → get_or usage r 0 ≡ get_or (map (demand_of p v) (range_with_len 0 max_resources)) r 0
    at r l = of_place r ∙ sym (get_or-map-range_with_len (demand_of p v) 0 max_resources r r 0 (omega (arith, l, count)) (omega arith))

-- ---- the problem that is left

-- the same problem with other nodes and machines
abbrev pub with_parts : Instance → List Node → List Machine → Instance
with_parts p nodes machines = record p { nodes = nodes; machines = machines }

module _ (p : Instance) (sound : IsInstance p) (plan : PlanChoices) (is : IsPlanOf p plan) (valid : IsValid p (choices_of plan)) (phases : Phases) (ex : IsExecution p (choices_of plan) phases) where
  module _ (nodes : List Node) (machines : List Machine) (a : AreChanged (λ n. node_after (done_choices (choices_of plan) phases (node n))) p.nodes nodes) (b : AreChanged (λ v. machine_after p v (done_choices (choices_of plan) phases (vm v))) p.machines machines) where
    pub parts_are_rest : IsRest p (choices_of plan) phases (with_parts p nodes machines)
    parts_are_rest = record { resources = refl; durations = refl; horizon = refl; constraints = refl; machines = b; nodes = a }

    pub parts_are_sound : IsInstance (with_parts p nodes machines)
    parts_are_sound = rest_is_sound p sound plan is valid phases ex (with_parts p nodes machines) parts_are_rest

  -- ---- the plan that is left

  module _ (q : Instance) (rest : IsRest p (choices_of plan) phases q) (choices : List Choice) (count : length choices ≡ element_count (inventory_of p))
      (each : (x : ℕ) → x < element_count (inventory_of p) → slice_index_or choices x Idle ≡ rest_choices (choices_of plan) phases (element_at (inventory_of p) x)) where
    idle_still : (e : Element) → choices_of plan e ≡ Idle → rest_choices (choices_of plan) phases e ≡ Idle
    idle_still e idle =
        elim (cases_Bool (is_ended (phases e))) [
          | inl over ↦ rw over refl
          | inr open_still ↦ rw (open_still, idle) refl
        ]

    of_machine : (v : ℕ) → slice_index_or (take (machine_count p) choices) v Idle ≡ rest_choices (choices_of plan) phases (vm v)
    of_machine v =
        elim (cases_lt v (machine_count p)) [
          | inl l ↦ get_or-take (machine_count p) choices v Idle l ∙ (rw (lt-ltb v (machine_count p) l) at (each v (omega (arith, l))))
          | inr past ↦
              get_or_past (take (machine_count p) choices) v Idle (omega (arith, length-take-le (machine_count p) choices (omega (arith, count)), past))
              ∙ sym (idle_still (vm v) (get_or_past plan.machines v Idle (omega (arith, is.machines, past))))
        ]

    past_start : (m n : ℕ) → (m + n) - m ≡ n
    past_start m n = omega arith

    of_node : (n : ℕ) → slice_index_or (drop (machine_count p) choices) n Idle ≡ rest_choices (choices_of plan) phases (node n)
    of_node n =
        get_or-drop (machine_count p) choices n Idle ∙
        elim (cases_lt n (node_count p)) [
          | inl l ↦
              subst (λ k. slice_index_or choices (machine_count p + n) Idle ≡ rest_choices (choices_of plan) phases (node k)) (past_start (machine_count p) n)
              (rw (le-ltb (machine_count p + n) (machine_count p) (omega arith)) at (each (machine_count p + n) (omega (arith, l))))
          | inr past ↦
              get_or_past choices (machine_count p + n) Idle (omega (arith, count, past))
              ∙ sym (idle_still (node n) (get_or_past plan.nodes n Idle (omega (arith, is.nodes, past))))
        ]

    choices_again : (e : Element) → choices_of (parted q choices) e ≡ rest_choices (choices_of plan) phases e
    choices_again (Vm v) = rw (machines_as_many p (choices_of plan) phases q rest) (of_machine v.0)
    choices_again (TheNode n) = rw (machines_as_many p (choices_of plan) phases q rest) (of_node n.0)

    same_choices : choices_of (parted q choices) ≡ rest_choices (choices_of plan) phases
    same_choices = λ i e. choices_again e i

    -- the choices that are left are a plan of the problem that is left
    pub parted_is_plan : IsPlanOf q (parted q choices)
    parted_is_plan = record {
      machines = length-take-le (machine_count q) choices (omega (arith, count, machines_as_many p (choices_of plan) phases q rest));
      nodes = length-drop (machine_count q) choices ∙ omega (arith, count, machines_as_many p (choices_of plan) phases q rest, nodes_as_many p (choices_of plan) phases q rest);
      legal = λ e there. subst (λ (c : Choice). IsTrue (is_legal q e c)) (sym (choices_again e)) (rest_is_plan p sound plan is valid phases ex q rest e there);
    }

    -- so that one goes on with them
    pub goes_on : IsGoingOn p (choices_of plan) phases q (parted q choices)
    goes_on = record {
      problem = rest;
      choices = choices_again;
      whole = parted_is_plan;
      valid = subst (IsValid q) (sym same_choices) (rest_is_valid p sound plan is valid phases ex q rest);
      costs = ap (cost_of q) same_choices ∙ rest_costs p (choices_of plan) phases q rest;
    }
