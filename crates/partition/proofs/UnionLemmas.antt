-- The union of plans by tables is that of the definitions.
use Rattle.std.proofs.Common.{IsTrue}
use Rattle.base.proofs.Public.{◌≡◌, inl, inr, ℕ, zero, suc, ◌+◌, ◌<◌, ◌≤◌, Bool, List, [], length, slice_index_or, refl, sym, ap, ap₂, subst, ◌∙◌, arith, cases_eq, cases_lt, eq-eqb, get_or-map-range_with_len, get_or_default, get_or_past, length-map-range_with_len, sum_to-same}
use Rattle.base.specs.Sums.{sum_to}
use Rattle.cluster.specs.declared.choices.Choice.{Choice}
use Rattle.cluster.specs.declared.choices.Choice.TheVariants.{Idle, Act}
use Rattle.cluster.specs.declared.choices.Place.TheVariants.{Nowhere, At}
use Rattle.cluster.specs.declared.ids.Element.{Element}
use Rattle.cluster.specs.declared.ids.Element.TheVariants.{Vm, Node as TheNode}
use Rattle.cluster.specs.declared.sets.NodeSet.{NodeSet}
use Rattle.catalogue.specs.Prelude.{Instance, IsElement}
use Rattle.slices.specs.Actions.{is_legal}
use Rattle.slices.specs.Costs.{cost_of}
use Rattle.slices.specs.Elements.{machine_count, node, node_count, vm}
use Rattle.slices.specs.Plans.{Choices, choices_of, IsPlan, PlanChoices}
use Rattle.slices.specs.Rules.{IsValid}
use Rattle.parts.specs.Cuts.{renumbered_choice}
use Rattle.parts.specs.Groups.{in_group, machine_group}
use Rattle.parts.specs.Laws.{ArePlans, AreValid, Split}
use Rattle.parts.specs.Numbers.{new_number, old_number, passing}
use Rattle.parts.specs.Parts.{in_part, part_of}
use Rattle.parts.specs.Unions.{part_choices, union_of, whole_choice}
use Rattle.parts.proofs.Public.{costs_add_up, group_in, legal_place, length-passing, never_legal, new_in, old_in, part_embeds, part_of_union, union_is_plan, unions_are_valid}
use Rattle.partition.specs.Division.{Divides, group_number}
use Rattle.partition.specs.Numbering.{AreNumbers, machine_number, node_number}
use Rattle.partition.specs.Plans.{ArePartPlans, choices_in, IsUnion, joined_choice, joined_machines, joined_nodes, listed_in, no_plan}
use Rattle.partition.specs.Reach.{at}
use Rattle.partition.proofs.DivisionLemmas.{at_node, in_own, number_in}
use Rattle.partition.proofs.FaultLemmas.{at_machine}
use Rattle.partition.proofs.NumberingLemmas.{count_machines, count_nodes}

-- new numbers grow
new_grows : (test : ℕ → Bool) (n w : ℕ) → n ≤ w → new_number test n ≤ new_number test w
new_grows test n zero l = let none : n ≡ 0 = omega arith in rw none (omega arith)
new_grows test n (suc w) l =
    elim (cases_eq n (suc w)) [
      | inl same ↦ rw same (omega arith)
      | inr other ↦ let before = new_grows test n w (omega (arith, l, other)) in let more : new_number test w ≤ new_number test (suc w) = omega arith in omega (arith, before, more)
    ]

-- what is past the end is Idle, also with an old number
idle_past : (test : ℕ → Bool) (count k : ℕ) (number : ℕ → ℕ) (choices : List Choice) → length choices ≡ count → length (passing test count) ≤ k → renumbered_choice number (slice_index_or choices (old_number test count k) Idle) ≡ Idle
idle_past test count k number choices long past =
    let old : old_number test count k ≡ count + k = get_or_past (passing test count) k (count + k) past in
    ap (renumbered_choice number) (get_or_past choices (old_number test count k) Idle (omega (arith, old, long)))

new_past : (test : ℕ → Bool) (count x : ℕ) → count ≤ x → length (passing test count) ≤ new_number test x
new_past test count x past = omega (arith, length-passing test count, new_grows test count x past)

module _ (p : Instance) (groups : List NodeSet) (split : Split p groups) (nodes machines : List ℕ) (d : Divides p groups nodes machines) (node_numbers machine_numbers : List ℕ) (numbers : AreNumbers p groups node_numbers machine_numbers) (plans : List PlanChoices) (are : ArePartPlans p groups plans) where
  abbrev joined_plan : PlanChoices
  joined_plan = record { machines = joined_machines machines machine_numbers (listed_in p groups) plans; nodes = joined_nodes nodes node_numbers (listed_in p groups) plans }

  -- ---- each choice

  at_list : (i m : ℕ) → i < length groups → m < node_count (part_of p groups i) → at (slice_index_or (listed_in p groups) i []) m ≡ old_number (in_group groups i) (node_count p) m
  at_list i m li l =
      ap (λ (t : List ℕ). at t m) (get_or-map-range_with_len (λ j. passing (in_group groups j) (node_count p)) 0 (length groups) i i [] li (omega arith))
      ∙ get_or_default (passing (in_group groups i) (node_count p)) m 0 (node_count p + m) (omega (arith, l, (part_embeds p groups split i).nodes))

  whole_by : (i : ℕ) (e : Element) (c : Choice) → i < length groups → IsTrue (is_legal (part_of p groups i) e c) → renumbered_choice (at (slice_index_or (listed_in p groups) i [])) c ≡ whole_choice p groups i c
  whole_by i e Idle li legal = refl
  whole_by i e (Act Nowhere start) li legal = refl
  whole_by i (Vm v) (Act (At n) start) li legal = ap (λ (x : ℕ). Act (At (record { 0 = x })) start) (at_list i n.0 li (legal_place (part_of p groups i) v.0 n start legal))
  whole_by i (TheNode m) (Act (At n) start) li legal = absurd (never_legal (part_of p groups i) m.0 n start legal)

  whole : (i : ℕ) (e : Element) → i < length groups → IsElement (part_of p groups i) e → joined_choice (listed_in p groups) plans i e ≡ whole_choice p groups i (choices_in plans i e)
  whole i e li l = whole_by i e (choices_in plans i e) li ((are i li).legal e l)

  number_of_machine : (v : ℕ) → v < machine_count p → at machine_numbers v ≡ machine_number p groups v
  number_of_machine v l = ap (λ (t : List ℕ). at t v) numbers.by_machine ∙ get_or-map-range_with_len (machine_number p groups) 0 (machine_count p) v v 0 l (omega arith)

  number_of_node : (n : ℕ) → n < node_count p → at node_numbers n ≡ node_number groups n
  number_of_node n l = ap (λ (t : List ℕ). at t n) numbers.by_node ∙ get_or-map-range_with_len (node_number groups) 0 (node_count p) n n 0 l (omega arith)

  machine_within : (v : ℕ) → v < machine_count p → machine_number p groups v < machine_count (part_of p groups (machine_group p groups v))
  machine_within v l =
      let placed = new_in (in_part p groups (machine_group p groups v)) (machine_count p) v l (eq-eqb (machine_group p groups v) (machine_group p groups v) refl) in
      omega (arith, placed, (part_embeds p groups split (machine_group p groups v)).machines)

  node_within : (n : ℕ) → n < node_count p → node_number groups n < node_count (part_of p groups (group_number groups n))
  node_within n l =
      let placed = new_in (in_group groups (group_number groups n)) (node_count p) n l (in_own p groups nodes d.covers n l) in
      omega (arith, placed, (part_embeds p groups split (group_number groups n)).nodes)

  machine_is : (v : ℕ) → v < machine_count p → choices_of joined_plan (vm v) ≡ union_of p groups (choices_in plans) (vm v)
  unfolding union_of
  machine_is v l =
      get_or-map-range_with_len (λ x. joined_choice (listed_in p groups) plans (at machines x) (vm (at machine_numbers x))) 0 (length machines) v v Idle (omega (arith, l, count_machines p groups nodes machines d)) (omega arith)
      ∙ ap₂ (λ (i k : ℕ). joined_choice (listed_in p groups) plans i (vm k)) (at_machine p groups nodes machines d v l) (number_of_machine v l)
      ∙ whole (machine_group p groups v) (vm (machine_number p groups v)) (group_in p groups split v) (machine_within v l)

  node_is : (n : ℕ) → n < node_count p → choices_of joined_plan (node n) ≡ union_of p groups (choices_in plans) (node n)
  unfolding union_of
  node_is n l =
      get_or-map-range_with_len (λ x. joined_choice (listed_in p groups) plans (at nodes x) (node (at node_numbers x))) 0 (length nodes) n n Idle (omega (arith, l, count_nodes p groups nodes machines d)) (omega arith)
      ∙ ap₂ (λ (i k : ℕ). joined_choice (listed_in p groups) plans i (node k)) (at_node p groups nodes d.covers n l) (number_of_node n l)
      ∙ whole (group_number groups n) (node (node_number groups n)) (number_in p groups nodes d.covers n l) (node_within n l)

  element_is : (e : Element) → IsElement p e → choices_of joined_plan e ≡ union_of p groups (choices_in plans) e
  element_is (Vm v) l = machine_is v.0 l
  element_is (TheNode n) l = node_is n.0 l

  are_plans : ArePlans p groups (choices_in plans)
  are_plans i li = (are i li).legal

  machines_long : length joined_plan.machines ≡ machine_count p
  machines_long = length-map-range_with_len (λ v. joined_choice (listed_in p groups) plans (at machines v) (vm (at machine_numbers v))) 0 (length machines) ∙ count_machines p groups nodes machines d

  nodes_long : length joined_plan.nodes ≡ node_count p
  nodes_long = length-map-range_with_len (λ n. joined_choice (listed_in p groups) plans (at nodes n) (node (at node_numbers n))) 0 (length nodes) ∙ count_nodes p groups nodes machines d

  -- ---- its parts

  part_back : (i : ℕ) → i < length groups → (e : Element) → part_choices p groups i (choices_of joined_plan) e ≡ choices_in plans i e
  unfolding part_choices
  part_back i li (Vm v) = elim (cases_lt v.0 (length (passing (in_part p groups i) (machine_count p)))) [
    | inl low ↦
        ap (renumbered_choice (new_number (in_group groups i))) (machine_is (old_number (in_part p groups i) (machine_count p) v.0) (old_in (in_part p groups i) (machine_count p) v.0 low))
        ∙ part_of_union p groups split (choices_in plans) are_plans i li (vm v.0) (omega (arith, low, (part_embeds p groups split i).machines))
    | inr past ↦
        idle_past (in_part p groups i) (machine_count p) v.0 (new_number (in_group groups i)) joined_plan.machines machines_long past
        ∙ sym (get_or_past (slice_index_or plans i no_plan).machines v.0 Idle (omega (arith, past, (part_embeds p groups split i).machines, (are i li).machines)))
  ]
  part_back i li (TheNode n) = elim (cases_lt n.0 (length (passing (in_group groups i) (node_count p)))) [
    | inl low ↦
        ap (renumbered_choice (new_number (in_group groups i))) (node_is (old_number (in_group groups i) (node_count p) n.0) (old_in (in_group groups i) (node_count p) n.0 low))
        ∙ part_of_union p groups split (choices_in plans) are_plans i li (node n.0) (omega (arith, low, (part_embeds p groups split i).nodes))
    | inr past ↦
        idle_past (in_group groups i) (node_count p) n.0 (new_number (in_group groups i)) joined_plan.nodes nodes_long past
        ∙ sym (get_or_past (slice_index_or plans i no_plan).nodes n.0 Idle (omega (arith, past, (part_embeds p groups split i).nodes, (are i li).nodes)))
  ]

  abbrev own_parts : ℕ → Choices
  own_parts i = part_choices p groups i (choices_of joined_plan)

  -- and the union of these, everywhere
  union_back : (e : Element) → union_of p groups own_parts e ≡ choices_of joined_plan e
  unfolding part_choices union_of
  union_back (Vm v) = elim (cases_lt v.0 (machine_count p)) [
    | inl low ↦ ap (whole_choice p groups (machine_group p groups v.0)) (part_back (machine_group p groups v.0) (group_in p groups split v.0) (vm (machine_number p groups v.0))) ∙ sym (machine_is v.0 low)
    | inr past ↦
        ap (whole_choice p groups (machine_group p groups v.0)) (idle_past (in_part p groups (machine_group p groups v.0)) (machine_count p) (machine_number p groups v.0) (new_number (in_group groups (machine_group p groups v.0))) joined_plan.machines machines_long (new_past (in_part p groups (machine_group p groups v.0)) (machine_count p) v.0 past))
        ∙ sym (get_or_past joined_plan.machines v.0 Idle (omega (arith, past, machines_long)))
  ]
  union_back (TheNode n) = elim (cases_lt n.0 (node_count p)) [
    | inl low ↦ ap (whole_choice p groups (group_number groups n.0)) (part_back (group_number groups n.0) (number_in p groups nodes d.covers n.0 low) (node (node_number groups n.0))) ∙ sym (node_is n.0 low)
    | inr past ↦
        ap (whole_choice p groups (group_number groups n.0)) (idle_past (in_group groups (group_number groups n.0)) (node_count p) (node_number groups n.0) (new_number (in_group groups (group_number groups n.0))) joined_plan.nodes nodes_long (new_past (in_group groups (group_number groups n.0)) (node_count p) n.0 past))
        ∙ sym (get_or_past joined_plan.nodes n.0 Idle (omega (arith, past, nodes_long)))
  ]

  is_own : union_of p groups own_parts ≡ choices_of joined_plan
  is_own = λ j e. union_back e j

  is_part : (i : ℕ) → i < length groups → own_parts i ≡ choices_in plans i
  is_part i li = λ j e. part_back i li e j

  joined_valid : AreValid p groups (choices_in plans) → IsValid p (choices_of joined_plan)
  joined_valid valid =
      subst (λ (c : Choices). IsValid p c) is_own
      (unions_are_valid p groups split own_parts (λ i li. subst (λ (c : Choices). IsPlan (part_of p groups i) c) (sym (is_part i li)) (are_plans i li)) (λ i li. subst (λ (c : Choices). IsValid (part_of p groups i) c) (sym (is_part i li)) (valid i li))).1

  joined_cost : cost_of p (choices_of joined_plan) ≡ sum_to (length groups) (λ i. cost_of (part_of p groups i) (choices_in plans i))
  joined_cost =
      ap (cost_of p) (sym is_own) ∙ costs_add_up p groups split own_parts
      ∙ sum_to-same (length groups) (λ i. cost_of (part_of p groups i) (own_parts i)) (λ i. cost_of (part_of p groups i) (choices_in plans i)) (λ i li. ap (cost_of (part_of p groups i)) (is_part i li))

  pub joined_is_union : IsUnion p groups plans joined_plan
  joined_is_union = record {
    plan_is = record {
      machines = machines_long;
      nodes = nodes_long;
      legal = λ e l. subst (λ (c : Choice). IsTrue (is_legal p e c)) (sym (element_is e l)) (union_is_plan p groups split (choices_in plans) are_plans e l);
    };
    choices = element_is;
    parts = part_back;
    valid = joined_valid;
    cost = joined_cost;
  }
