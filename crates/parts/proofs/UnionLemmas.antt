-- The parts of a plan, the union of plans, and what they cost.
use Rattle.std.proofs.Common.{IsTrue}
use Rattle.base.specs.Sums.{sum_to}
use Rattle.base.proofs.Public.{◌≡◌, ℕ, ◌+◌, ◌<◌, ◌≤◌, Bool, true, false, ◌==◌, List, length, Option, None, is_some, unwrap_or, if◌then◌else◌, refl, sym, ap, ap₂, subst, ◌∙◌, and_parts, arith, eq-eqb, eqb-true, false≢true, ltb-true, sum_to-add, sum_to-le, sum_to-one, sum_to-same, sum_to-swap}
use Rattle.cluster.specs.declared.choices.Choice.{Choice}
use Rattle.cluster.specs.declared.choices.Choice.TheVariants.{Idle, Act}
use Rattle.cluster.specs.declared.choices.Place.TheVariants.{Nowhere, At}
use Rattle.cluster.specs.declared.ids.Element.TheVariants.{Vm, Node as TheNode}
use Rattle.cluster.specs.declared.ids.NodeId.{NodeId}
use Rattle.cluster.specs.declared.kinds.Kind.{Kind}
use Rattle.cluster.specs.declared.sets.NodeSet.{NodeSet}
use Rattle.catalogue.specs.Prelude.{Instance, is_online, wanted_of}
use Rattle.catalogue.specs.declared.targets.Target.TheVariants.{Online as ToOnline, Offline as ToOffline, Running as ToRunning, Sleeping as ToSleeping, Ready as ToReady, Killed as ToKilled}
use Rattle.catalogue.specs.declared.targets.Wish.{Wish}
use Rattle.catalogue.specs.declared.targets.Wish.TheVariants.{Keep, To, Clash}
use Rattle.slices.specs.Actions.{end_of, is_legal, is_raised, kind_of, machine_kind, node_kind, wanted_state}
use Rattle.slices.specs.Costs.{cost_of}
use Rattle.slices.specs.Elements.{is_place, machine_count, node, node_count, state_of, vm}
use Rattle.slices.specs.Plans.{Choices, IsPlan}
use Rattle.slices.specs.Rules.{IsValid}
use Rattle.parts.specs.Cuts.{renumbered_choice}
use Rattle.parts.specs.Embeds.{Embeds, node_at, vm_at}
use Rattle.parts.specs.Groups.{in_group, machine_group, node_group}
use Rattle.parts.specs.Laws.{ArePlans, CostsAddUp, LeastsAddUp, PartIsInfeasible, PartOfUnion, PartsAreValid, PlanIsUnion, Split, StayingPlanIsUnion, UnionIsOptimal, UnionsAreValid}
use Rattle.parts.specs.Numbers.{new_number}
use Rattle.parts.specs.Parts.{has_form, in_part, part_of}
use Rattle.parts.specs.Unions.{part_choices, Stays, StaysIn, union_of, whole_choice}
use Rattle.parts.proofs.CutLemmas.{same_tests}
use Rattle.parts.proofs.FindLemmas.{found}
use Rattle.parts.proofs.HoldLemmas.{end_agrees, node_end_agrees}
use Rattle.parts.proofs.KeepLemmas.{keeps_groups}
use Rattle.parts.proofs.NumberLemmas.{new_old, old_new, sum_to-passing}
use Rattle.parts.proofs.SplitLemmas.{covered, group_in, part_embeds}
use Rattle.parts.proofs.ValidLemmas.{legal_down, legal_up, part_legal, valid_down, valid_up}
use Rattle.parts.proofs.ViewLemmas.{node_back, node_in, node_new, node_ours, vm_back, vm_in, vm_mine, vm_new}
use Rattle.parts.proofs.WholeLemmas.{AllFit, Fits}

-- ---- a node acts at no place

no_node_kind : (online : Bool) (wish : Wish) (n : NodeId) → node_kind online wish (At n) ≡ None
no_node_kind true Keep n = refl
no_node_kind true (To ToOnline) n = refl
no_node_kind true (To ToOffline) n = refl
no_node_kind true (To ToRunning) n = refl
no_node_kind true (To ToSleeping) n = refl
no_node_kind true (To ToReady) n = refl
no_node_kind true (To ToKilled) n = refl
no_node_kind true Clash n = refl
no_node_kind false Keep n = refl
no_node_kind false (To ToOnline) n = refl
no_node_kind false (To ToOffline) n = refl
no_node_kind false (To ToRunning) n = refl
no_node_kind false (To ToSleeping) n = refl
no_node_kind false (To ToReady) n = refl
no_node_kind false (To ToKilled) n = refl
no_node_kind false Clash n = refl

pub never_legal : (p : Instance) (x : ℕ) (n : NodeId) (start : ℕ) → IsTrue (is_legal p (node x) (Act (At n) start)) → ⊥
unfolding is_legal kind_of
never_legal p x n start legal =
    let some : is_some (node_kind (is_online p.nodes x) (wanted_of p (node x)) (At n)) ≡ true = (and_parts _ _ legal).0 in
    false≢true (sym (ap is_some (no_node_kind (is_online p.nodes x) (wanted_of p (node x)) n)) ∙ some)

node_stays : (p : Instance) (groups : List NodeSet) (i x : ℕ) (c : Choice) → IsTrue (is_legal p (node x) c) → StaysIn groups i c
node_stays p groups i x Idle legal = tt
node_stays p groups i x (Act Nowhere start) legal = tt
node_stays p groups i x (Act (At n) start) legal = absurd (never_legal p x n start legal)

-- a machine acts at nodes of the instance
pub legal_place : (p : Instance) (v : ℕ) (n : NodeId) (start : ℕ) → IsTrue (is_legal p (vm v) (Act (At n) start)) → n.0 < node_count p
unfolding is_legal kind_of
legal_place p v n start legal = ltb-true n.0 (node_count p) (at (is_place p (At n)) (machine_kind (state_of p v) (wanted_state p v) (is_raised p v) (At n)) (and_parts _ _ legal).0)
  where
    at : (b : Bool) (o : Option Kind) → is_some (if b then o else None) ≡ true → b ≡ true
    at true o e = refl
    at false o e = absurd (false≢true e)

-- ---- one of the groups each

module _ (p : Instance) (groups : List NodeSet) (split : Split p groups) where
  emb : (i : ℕ) → Embeds p (part_of p groups i) (in_part p groups i) (in_group groups i) (has_form p groups i)
  emb i = part_embeds p groups split i

  abbrev group_of : ℕ → ℕ
  group_of n = unwrap_or (node_group groups n) 0

  -- the group of a node has it, and is one of the groups
  pub has_node_group : (n : ℕ) → n < node_count p → (group_of n < length groups) × IsTrue (in_group groups (group_of n) n)
  has_node_group n l =
      let g = covered p groups split n l in
      let in_g = found (λ j. in_group groups j n) 0 (length groups) g.0 g.1 in
      let same : unwrap_or (node_group groups n) 0 ≡ g.0 = ap (λ (o : Option ℕ). unwrap_or o 0) g.1 in
      (omega (arith, same, in_g.high), subst (λ (j : ℕ). IsTrue (in_group groups j n)) (sym same) in_g.passes)

  node_in_one : (i n : ℕ) → n < node_count p → in_group groups i n ≡ (group_of n == i)
  node_in_one i n l =
      let own = has_node_group n l in
      same_tests (in_group groups i n) (group_of n == i)
      (λ on. eq-eqb _ _ (split.are_groups.apart (group_of n) i n own.1 on))
      (λ same. subst (λ (j : ℕ). IsTrue (in_group groups j n)) (eqb-true _ _ same) own.1)

  group_is : (n i : ℕ) → n < node_count p → IsTrue (in_group groups i n) → unwrap_or (node_group groups n) 0 ≡ i
  group_is n i l on = split.are_groups.apart (group_of n) i n (has_node_group n l).1 on

  -- ---- parts of plans

  -- a choice that stays, with new numbers and then with the old ones
  choice_back : (i : ℕ) (c : Choice) → StaysIn groups i c → renumbered_choice (node_at p (in_group groups i)) (renumbered_choice (new_number (in_group groups i)) c) ≡ c
  choice_back i Idle stays = refl
  choice_back i (Act Nowhere start) stays = refl
  choice_back i (Act (At n) start) stays = ap (λ (x : ℕ). Act (At (record { 0 = x })) start) (old_new (in_group groups i) (node_count p) n.0 (split.are_groups.listed i n.0 stays) stays)

  -- a choice of the part, with old numbers and then with the new ones
  choice_forth : (i : ℕ) (c : Choice) → ((n : NodeId) (start : ℕ) → c ≡ Act (At n) start → n.0 < node_count (part_of p groups i)) → renumbered_choice (new_number (in_group groups i)) (renumbered_choice (node_at p (in_group groups i)) c) ≡ c
  choice_forth i Idle there = refl
  choice_forth i (Act Nowhere start) there = refl
  choice_forth i (Act (At n) start) there = ap (λ (x : ℕ). Act (At (record { 0 = x })) start) (new_old (in_group groups i) (node_count p) n.0 (subst (λ (m : ℕ). n.0 < m) (emb i).nodes (there n start refl)))

  -- a plan whose machines of the part stay there
  pub part_fits : (plan : Choices) → IsPlan p plan → (i : ℕ) → ((v : ℕ) → v < machine_count p → IsTrue (in_part p groups i v) → StaysIn groups i (plan (vm v))) → Fits p (part_of p groups i) (in_part p groups i) (in_group groups i) plan (part_choices p groups i plan)
  unfolding part_choices
  part_fits plan legal i stays = record {
    machines = λ k l.
        let v_in = vm_in p (part_of p groups i) (in_part p groups i) (in_group groups i) (has_form p groups i) (emb i) k l in
        let mine = vm_mine p (part_of p groups i) (in_part p groups i) (in_group groups i) (has_form p groups i) (emb i) k l in
        sym (choice_back i (plan (vm (vm_at p (in_part p groups i) k))) (stays (vm_at p (in_part p groups i) k) v_in mine));
    nodes = λ m l.
        let n_in = node_in p (part_of p groups i) (in_part p groups i) (in_group groups i) (has_form p groups i) (emb i) m l in
        sym (choice_back i (plan (node (node_at p (in_group groups i) m))) (node_stays p groups i (node_at p (in_group groups i) m) (plan (node (node_at p (in_group groups i) m))) (legal (node (node_at p (in_group groups i) m)) n_in)));
  }

  -- its choices of the part are a plan of the part
  pub part_is_plan : (plan : Choices) → IsPlan p plan → (i : ℕ) → ((v : ℕ) → v < machine_count p → IsTrue (in_part p groups i v) → StaysIn groups i (plan (vm v))) → IsPlan (part_of p groups i) (part_choices p groups i plan)
  part_is_plan plan legal i stays = part_legal p groups split i plan (part_choices p groups i plan) (part_fits plan legal i stays) legal

  pub parts_fit : (plan : Choices) → IsPlan p plan → Stays p groups plan → AllFit p groups plan (λ i. part_choices p groups i plan)
  parts_fit plan legal stays i li = part_fits plan legal i (λ v l mine. subst (λ (j : ℕ). StaysIn groups j (plan (vm v))) (eqb-true _ _ mine) (stays v l))

  pub union_fits : (plans : ℕ → Choices) → AllFit p groups (union_of p groups plans) plans
  unfolding union_of
  union_fits plans i li = record {
    machines = λ k l.
        let mine : machine_group p groups (vm_at p (in_part p groups i) k) ≡ i = eqb-true _ _ (vm_mine p (part_of p groups i) (in_part p groups i) (in_group groups i) (has_form p groups i) (emb i) k l) in
        ap (λ (j : ℕ). whole_choice p groups j (plans j (vm (new_number (in_part p groups j) (vm_at p (in_part p groups i) k))))) mine
        ∙ ap (λ (x : ℕ). whole_choice p groups i (plans i (vm x))) (new_old (in_part p groups i) (machine_count p) k (subst (λ (n : ℕ). k < n) (emb i).machines l));
    nodes = λ m l.
        let n_in = node_in p (part_of p groups i) (in_part p groups i) (in_group groups i) (has_form p groups i) (emb i) m l in
        let on = node_ours p (part_of p groups i) (in_part p groups i) (in_group groups i) (has_form p groups i) (emb i) m l in
        let same : unwrap_or (node_group groups (node_at p (in_group groups i) m)) 0 ≡ i = group_is (node_at p (in_group groups i) m) i n_in on in
        ap (λ (j : ℕ). whole_choice p groups j (plans j (node (new_number (in_group groups j) (node_at p (in_group groups i) m))))) same
        ∙ ap (λ (x : ℕ). whole_choice p groups i (plans i (node x))) (new_old (in_group groups i) (node_count p) m (subst (λ (n : ℕ). m < n) (emb i).nodes l));
  }

  -- ---- costs

  module _ (plan : Choices) (plans : ℕ → Choices) (fits : AllFit p groups plan plans) where
    ends : ℕ → ℕ
    ends v = end_of p (vm v) (plan (vm v))

    node_ends : ℕ → ℕ
    node_ends n = end_of p (node n) (plan (node n))

    -- the machines of a part
    machine_costs : (i : ℕ) → i < length groups → sum_to (machine_count p) (λ v. if machine_group p groups v == i then ends v else 0) ≡ sum_to (machine_count (part_of p groups i)) (λ k. end_of (part_of p groups i) (vm k) (plans i (vm k)))
    unfolding ends
    machine_costs i li =
        sum_to-passing (in_part p groups i) (λ v. if machine_group p groups v == i then end_of p (vm v) (plan (vm v)) else 0) (λ k. machine_count p + k) (machine_count p) (λ v l out. rw out refl)
        ∙ ap (λ (n : ℕ). sum_to n (λ k. if in_part p groups i (vm_at p (in_part p groups i) k) then end_of p (vm (vm_at p (in_part p groups i) k)) (plan (vm (vm_at p (in_part p groups i) k))) else 0)) (sym (emb i).machines)
        ∙ sum_to-same (machine_count (part_of p groups i)) _ _ (λ k l.
        ap (λ (b : Bool). if b then end_of p (vm (vm_at p (in_part p groups i) k)) (plan (vm (vm_at p (in_part p groups i) k))) else 0) (vm_mine p (part_of p groups i) (in_part p groups i) (in_group groups i) (has_form p groups i) (emb i) k l)
        ∙ ap (end_of p (vm (vm_at p (in_part p groups i) k))) ((fits i li).machines k l)
        ∙ end_agrees p (part_of p groups i) (in_part p groups i) (in_group groups i) (has_form p groups i) (emb i) k l (plans i (vm k)))

    node_costs : (i : ℕ) → i < length groups → sum_to (node_count p) (λ n. if in_group groups i n then node_ends n else 0) ≡ sum_to (node_count (part_of p groups i)) (λ m. end_of (part_of p groups i) (node m) (plans i (node m)))
    unfolding node_ends
    node_costs i li =
        sum_to-passing (in_group groups i) (λ n. if in_group groups i n then end_of p (node n) (plan (node n)) else 0) (λ k. node_count p + k) (node_count p) (λ n l out. rw out refl)
        ∙ ap (λ (n : ℕ). sum_to n (λ m. if in_group groups i (node_at p (in_group groups i) m) then end_of p (node (node_at p (in_group groups i) m)) (plan (node (node_at p (in_group groups i) m))) else 0)) (sym (emb i).nodes)
        ∙ sum_to-same (node_count (part_of p groups i)) _ _ (λ m l.
        ap (λ (b : Bool). if b then end_of p (node (node_at p (in_group groups i) m)) (plan (node (node_at p (in_group groups i) m))) else 0) (node_ours p (part_of p groups i) (in_part p groups i) (in_group groups i) (has_form p groups i) (emb i) m l)
        ∙ ap (end_of p (node (node_at p (in_group groups i) m))) ((fits i li).nodes m l)
        ∙ node_end_agrees p (part_of p groups i) (in_part p groups i) (in_group groups i) (has_form p groups i) (emb i) m l (plans i (node m)))

    -- a sum by the groups of what it goes over
    by_group : (n : ℕ) (f group : ℕ → ℕ) → ((v : ℕ) → v < n → group v < length groups) → sum_to n f ≡ sum_to (length groups) (λ i. sum_to n (λ v. if group v == i then f v else 0))
    by_group n f group within =
        sum_to-same n f (λ v. sum_to (length groups) (λ i. if group v == i then f v else 0)) (λ v l. sym (sum_to-one (length groups) (group v) (f v) (λ _. true) (within v l)))
        ∙ sum_to-swap n (length groups) (λ v i. if group v == i then f v else 0)

    pub fitting_costs : cost_of p plan ≡ sum_to (length groups) (λ i. cost_of (part_of p groups i) (plans i))
    unfolding ends node_ends
    fitting_costs =
        ap₂ (λ (a b : ℕ). a + b)
        (by_group (machine_count p) ends (machine_group p groups) (λ v l. group_in p groups split v) ∙ sum_to-same (length groups) _ _ machine_costs)
        (by_group (node_count p) node_ends group_of (λ n l. (has_node_group n l).0) ∙ sum_to-same (length groups) _ _ (λ i li. sum_to-same (node_count p) _ _ (λ n l. ap (λ (b : Bool). if b then end_of p (node n) (plan (node n)) else 0) (sym (node_in_one i n l))) ∙ node_costs i li))
        ∙ sym (sum_to-add (length groups) (λ i. sum_to (machine_count (part_of p groups i)) (λ k. end_of (part_of p groups i) (vm k) (plans i (vm k)))) (λ i. sum_to (node_count (part_of p groups i)) (λ m. end_of (part_of p groups i) (node m) (plans i (node m)))))

  -- ---- valid plans

  fits_of : (plan : Choices) → IsPlan p plan → IsValid p plan → AllFit p groups plan (λ i. part_choices p groups i plan)
  fits_of plan legal valid = parts_fit plan legal (keeps_groups p groups split plan legal valid)

  parts_plan : (plan : Choices) → IsPlan p plan → IsValid p plan → (i : ℕ) → i < length groups → IsPlan (part_of p groups i) (part_choices p groups i plan)
  parts_plan plan legal valid = legal_down p groups split plan (λ i. part_choices p groups i plan) (fits_of plan legal valid) legal

  parts_valid : (plan : Choices) → IsPlan p plan → IsValid p plan → (i : ℕ) → i < length groups → IsValid (part_of p groups i) (part_choices p groups i plan)
  parts_valid plan legal valid = valid_down p groups split plan (λ i. part_choices p groups i plan) (fits_of plan legal valid) valid

pub parts_are_valid : PartsAreValid
parts_are_valid p groups split plan legal valid i li = (parts_plan p groups split plan legal valid i li, parts_valid p groups split plan legal valid i li)

-- the union of plans of all parts is a plan
pub union_is_plan : (p : Instance) (groups : List NodeSet) → Split p groups → (plans : ℕ → Choices) → ArePlans p groups plans → IsPlan p (union_of p groups plans)
union_is_plan p groups split plans legal = legal_up p groups split (union_of p groups plans) plans (union_fits p groups split plans) legal

pub unions_are_valid : UnionsAreValid
unions_are_valid p groups split plans legal valid =
    (union_is_plan p groups split plans legal, valid_up p groups split (union_of p groups plans) plans (union_fits p groups split plans) valid)

pub costs_add_up : CostsAddUp
costs_add_up p groups split plans = fitting_costs p groups split (union_of p groups plans) plans (union_fits p groups split plans)

pub leasts_add_up : LeastsAddUp
leasts_add_up p groups split leasts each plan legal valid =
    let costs = fitting_costs p groups split plan (λ i. part_choices p groups i plan) (fits_of p groups split plan legal valid) in
    subst (λ (c : ℕ). sum_to (length groups) leasts ≤ c) (sym costs)
    (sum_to-le (length groups) leasts (λ i. cost_of (part_of p groups i) (part_choices p groups i plan)) (λ i li. each i li (part_choices p groups i plan) (parts_plan p groups split plan legal valid i li) (parts_valid p groups split plan legal valid i li)))

pub union_is_optimal : UnionIsOptimal
union_is_optimal p groups split plans optimal =
    let both = unions_are_valid p groups split plans (λ i li. (optimal i li).legal) (λ i li. (optimal i li).valid) in
    record {
      legal = both.0;
      valid = both.1;
      least = λ other legal valid. subst (λ (c : ℕ). c ≤ cost_of p other) (sym (costs_add_up p groups split plans)) (leasts_add_up p groups split (λ i. cost_of (part_of p groups i) (plans i)) (λ i li. (optimal i li).least) other legal valid);
    }

pub part_is_infeasible : PartIsInfeasible
part_is_infeasible p groups split i li none plan legal valid = none (part_choices p groups i plan) (parts_plan p groups split plan legal valid i li) (parts_valid p groups split plan legal valid i li)

pub staying_plan_is_union : StayingPlanIsUnion
staying_plan_is_union p groups split plan legal stays (Vm v) l = machine (machine_group p groups v.0) (group_in p groups split v.0) (eq-eqb (machine_group p groups v.0) (machine_group p groups v.0) refl)
  where
    machine : (i : ℕ) → i < length groups → IsTrue (in_part p groups i v.0) → union_of p groups (λ i. part_choices p groups i plan) (vm v.0) ≡ plan (vm v.0)
    machine i li mine =
        let lk = vm_new p (part_of p groups i) (in_part p groups i) (in_group groups i) (has_form p groups i) (part_embeds p groups split i) v.0 l mine in
        let back : vm_at p (in_part p groups i) (new_number (in_part p groups i) v.0) ≡ v.0 = vm_back p (part_of p groups i) (in_part p groups i) (in_group groups i) (has_form p groups i) (part_embeds p groups split i) v.0 l mine in
        subst (λ (x : ℕ). union_of p groups (λ i. part_choices p groups i plan) (vm x) ≡ plan (vm x)) back
        ((union_fits p groups split (λ i. part_choices p groups i plan) i li).machines (new_number (in_part p groups i) v.0) lk ∙ sym ((parts_fit p groups split plan legal stays i li).machines (new_number (in_part p groups i) v.0) lk))
staying_plan_is_union p groups split plan legal stays (TheNode n) l =
    let own = has_node_group p groups split n.0 l in
    at_node _ own.0 own.1
  where
    at_node : (i : ℕ) → i < length groups → IsTrue (in_group groups i n.0) → union_of p groups (λ i. part_choices p groups i plan) (node n.0) ≡ plan (node n.0)
    at_node i li on =
        let lm = node_new p (part_of p groups i) (in_part p groups i) (in_group groups i) (has_form p groups i) (part_embeds p groups split i) n.0 l on in
        let back : node_at p (in_group groups i) (new_number (in_group groups i) n.0) ≡ n.0 = node_back p (part_of p groups i) (in_part p groups i) (in_group groups i) (has_form p groups i) (part_embeds p groups split i) n.0 l on in
        subst (λ (x : ℕ). union_of p groups (λ i. part_choices p groups i plan) (node x) ≡ plan (node x)) back
        ((union_fits p groups split (λ i. part_choices p groups i plan) i li).nodes (new_number (in_group groups i) n.0) lm ∙ sym ((parts_fit p groups split plan legal stays i li).nodes (new_number (in_group groups i) n.0) lm))

pub plan_is_union : PlanIsUnion
plan_is_union p groups split plan legal valid = staying_plan_is_union p groups split plan legal (keeps_groups p groups split plan legal valid)

pub part_of_union : PartOfUnion
unfolding part_choices
part_of_union p groups split plans legal i li (Vm v) l =
    ap (renumbered_choice (new_number (in_group groups i))) ((union_fits p groups split plans i li).machines v.0 l)
    ∙ choice_forth p groups split i (plans i (vm v.0)) (λ n start acts. legal_place (part_of p groups i) v.0 n start (subst (λ (c : Choice). IsTrue (is_legal (part_of p groups i) (vm v.0) c)) acts (legal i li (vm v.0) l)))
part_of_union p groups split plans legal i li (TheNode m) l =
    ap (renumbered_choice (new_number (in_group groups i))) ((union_fits p groups split plans i li).nodes m.0 l)
    ∙ choice_forth p groups split i (plans i (node m.0)) (λ n start acts. absurd (never_legal (part_of p groups i) m.0 n start (subst (λ (c : Choice). IsTrue (is_legal (part_of p groups i) (node m.0) c)) acts (legal i li (node m.0) l))))
