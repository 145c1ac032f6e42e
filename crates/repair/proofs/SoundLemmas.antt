-- The problem that is left is sound: names, capacities, durations and counts are those of the old one, and uses are demands or as before.
use Rattle.base.proofs.Public.{◌≡◌, ℕ, suc, ◌+◌, ◌<◌, ◌≤◌, ◌++◌, Bool, true, false, ◌&&◌, ◌==◌, nat_le, nat_lt, List, [], ◌∷◌, length, drop, Option, Some, None, is_some, refl, sym, ap, subst, ◌∙◌, arith, All, All-head, All-tail, All-weaker, and_from, and_parts, and_right, eq-eqb, false≢true, fold, get_or, get_or-drop, get_or-map-range_with_len, get_or_from_slice_get, le-leb, length-drop, length-map-range_with_len, list_all, ltb-true, map, ne_eqb, option_map, range_with_len, slice_get, slice_get_within}
use Rattle.std.proofs.lemmas.Option.{slice_get-get_or}
use Rattle.std.proofs.lemmas.List.Sums.{list_all-from_AllPass}
use Rattle.slices.specs.Prelude.{amounts_fit, are_distinct, are_named_nodes, are_nodes, Choices, choices_of, demand_of, has_places, host_is_online, Instance, Inventory, inventory_of, is_member, is_name, is_named_resource, is_rule, IsInstance, IsInventory, IsPlanOf, IsValid, kind_of, machine_own_fits, max_amount, max_resources, node, node_own_fits, PlanChoices, preserved_of, preserved_with, state_in, state_of, use_of, vm}
use Rattle.cluster.specs.declared.{choices.Choice.Choice, choices.Choice.TheVariants.Act, choices.Choice.TheVariants.Idle, durations.Duration.Duration, machines.Machine.Machine, sets.NodeSet.NodeSet, states.State.State}
use Rattle.cluster.specs.Inventory.{names_of}
use Rattle.cluster.specs.declared.nodes.Node.{Node}
use Rattle.cluster.specs.declared.states.State.TheVariants.{Running}
use Rattle.catalogue.specs.Values.{amount_of}
use Rattle.cluster.proofs.Public.{amount_zero}
use Rattle.catalogue.specs.declared.constraint.Constraint.{Constraint}
use Rattle.catalogue.specs.declared.constraint.Constraint.TheVariants as constraint
use Rattle.catalogue.proofs.Public.{demand_of_le}
use Rattle.executor.specs.Prelude.{IsExecution, Phases}
use Rattle.repair.specs.Rest.{done_choices, IsRest, machine_after, node_after, state_after, use_after}
use Rattle.repair.specs.Laws.{RestIsSound}
use Rattle.repair.proofs.KeptLemmas.{machines_as_many, nodes_as_many}
use Rattle.repair.proofs.HostLemmas.{rest_hosts}

-- ---- lists of which each item has changed

was_there : {A : Type 0} (f : A → A) (o : Option A) (y : A) → option_map f o ≡ Some y → (x : A) × (o ≡ Some x) × (f x ≡ y)
was_there f None y e = absurd (false≢true (ap is_some e))
was_there f (Some x) y e = (x, refl, cc)

module _ {A : Type 0} (f : ℕ → A → A) (xs ys : List A) (each : (i : ℕ) → slice_get ys i ≡ option_map (f i) (slice_get xs i)) where
  all_again : (P Q : A → Type 0) → ((i : ℕ) (x : A) → slice_get xs i ≡ Some x → P x → Q (f i x)) → All P xs → All Q ys
  all_again P Q keeps all i d l =
      let w = was_there (f i) (slice_get xs i) (get_or ys i d) (sym (each i) ∙ slice_get-get_or ys i d l) in
      subst Q w.2 (keeps i w.0 w.1 (of_item i w.0 w.1))
    where
      of_item : (i : ℕ) (x : A) → slice_get xs i ≡ Some x → P x
      of_item i x e = subst P (get_or_from_slice_get xs i x x e) (all i x (slice_get_within xs i x e))

names_again : {A : Type 0} (name : A → List ℕ) (f : ℕ → A → A) → ((i : ℕ) (x : A) → name (f i x) ≡ name x) → (xs ys : List A) → ((i : ℕ) → slice_get ys i ≡ option_map (f i) (slice_get xs i)) → map name ys ≡ map name xs
names_again name f same [] [] each = refl
names_again name f same [] (y ∷ ys) each = absurd (false≢true (ap is_some (sym (each 0))))
names_again name f same (x ∷ xs) [] each = absurd (false≢true (ap is_some (each 0)))
names_again name f same (x ∷ xs) (y ∷ ys) each =
    let first : y ≡ f 0 x = let e : Some y ≡ Some (f 0 x) = each 0 in cc in
    let name_first : name y ≡ name x = ap name first ∙ same 0 x in
    let others = names_again name (λ i. f (suc i)) (λ i. same (suc i)) xs ys (λ i. each (suc i)) in
    λ i. name_first i ∷ others i

-- ---- nodes and machines, once they have changed

named_node : (c : Choice) (x : Node) → (node_after c x).name ≡ x.name
named_node Idle x = refl
named_node (Act place start) x = refl

-- what is said of a node but whether it is online
node_again : (test : List ℕ → List (Option Duration) → Bool) (c : Choice) (x : Node) → test x.capacity x.own ≡ true → test (node_after c x).capacity (node_after c x).own ≡ true
node_again test Idle x h = h
node_again test (Act place start) x h = h

named_machine : (p : Instance) (v : ℕ) (c : Choice) (m : Machine) → (machine_after p v c m).name ≡ m.name
named_machine p v Idle m = refl
named_machine p v (Act place start) m = refl

-- what is said of a machine but its state, where it is so of all demands
machine_again : (test : List ℕ → List (Option Duration) → Bool) (p : Instance) (v : ℕ) (c : Choice) (m : Machine) → test m.usage m.own ≡ true → test (map (demand_of p v) (range_with_len 0 max_resources)) m.own ≡ true →
    test (machine_after p v c m).usage (machine_after p v c m).own ≡ true
machine_again test p v Idle m h demands = h
machine_again test p v (Act place start) m h demands = used (state_after m.state (kind_of p (vm v) place) place)
  where
    used : (s : State) → test (use_after p v s m.usage) m.own ≡ true
    used (Running n) = demands
    used _ = h

-- ---- demands

-- no constraint preserves what is not listed
preserves_none : (k : Inventory) (v r u : ℕ) → length k.resources ≤ r → (c : Constraint) → is_rule k c ≡ true → preserved_with v r u c ≡ u
preserves_none k v r u past (constraint.Preserve vs q amount) rule =
    let listed : nat_lt q (length k.resources) ≡ true = (and_parts _ _ (and_parts _ _ (and_parts _ _ rule).0).0).1 in
    let below : q < length k.resources = ltb-true q (length k.resources) listed in
    let other : (q == r) ≡ false = ne_eqb q r (λ e. absurd (omega (arith, e, below, past))) in
    rw (and_right (is_member vs v) (q == r) other) refl
preserves_none k v r u past _ rule = refl

preserved_past : (k : Inventory) (v r u : ℕ) → length k.resources ≤ r → (cs : List Constraint) → All (λ c. is_rule k c ≡ true) cs → fold (preserved_with v r) u cs ≡ u
preserved_past k v r u past [] all = refl
preserved_past k v r u past (c ∷ cs) all =
    preserved_past k v r (preserved_with v r u c) past cs (All-tail (λ c. is_rule k c ≡ true) c cs all) ∙ preserves_none k v r u past c (All-head (λ c. is_rule k c ≡ true) c cs all)

pub demand_past : (p : Instance) → IsInstance p → (v r : ℕ) (m : Machine) → slice_get p.machines v ≡ Some m → amounts_fit (length p.resources) m.usage ≡ true → length p.resources ≤ r → demand_of p v r ≡ 0
unfolding demand_of preserved_of
demand_past p sound v r m there fit past =
    let used : use_of p.machines v r ≡ 0 = ap (λ (o : Option Machine). amount_of o r) there ∙ amount_zero (length p.resources) m.usage fit r past in
    omega (arith, used, preserved_past (inventory_of p) v r 0 past p.constraints sound.rules)

-- demands are amounts of what is listed
demands_fit : (p : Instance) → IsInstance p → (v : ℕ) (m : Machine) → slice_get p.machines v ≡ Some m → amounts_fit (length p.resources) m.usage ≡ true → amounts_fit (length p.resources) (map (demand_of p v) (range_with_len 0 max_resources)) ≡ true
demands_fit p sound v m there fit =
    and_from _ _ (list_all-from_AllPass (λ a. nat_le a max_amount) demands small) (list_all-from_AllPass (λ a. a == 0) (drop (length p.resources) demands) none)
  where
    demands : List ℕ
    demands = map (demand_of p v) (range_with_len 0 max_resources)

    at : (i d : ℕ) → i < max_resources → get_or demands i d ≡ demand_of p v i
    at i d l = get_or-map-range_with_len (demand_of p v) 0 max_resources i i d l (omega arith)

    small : All (λ a. nat_le a max_amount ≡ true) demands
    small i d l =
        let low : i < max_resources = omega (arith, l, length-map-range_with_len (demand_of p v) 0 max_resources) in
        le-leb (get_or demands i d) max_amount (omega (arith, at i d low, demand_of_le p v i sound))

    none : All (λ a. (a == 0) ≡ true) (drop (length p.resources) demands)
    none i d l =
        let low : length p.resources + i < max_resources = omega (arith, l, length-drop (length p.resources) demands, length-map-range_with_len (demand_of p v) 0 max_resources) in
        let here = get_or-drop (length p.resources) demands i d ∙ at (length p.resources + i) d low in
        eq-eqb (get_or (drop (length p.resources) demands) i d) 0 (omega (arith, here, demand_past p sound v (length p.resources + i) m there fit (omega arith)))

-- ---- constraints: what they name is there where there is as much

module _ (k other : Inventory) (machines : length other.machines ≡ length k.machines) (nodes : length other.nodes ≡ length k.nodes) (resources : other.resources ≡ k.resources) where
  nodes_alike : (ns : NodeSet) → are_nodes other ns ≡ are_nodes k ns
  nodes_alike ns = rw nodes refl

  named_nodes_alike : (c : Constraint) → are_named_nodes other c ≡ are_named_nodes k c
  named_nodes_alike (constraint.Ban vs ns b) = nodes_alike ns
  named_nodes_alike (constraint.Fence vs ns b) = nodes_alike ns
  named_nodes_alike (constraint.ResourceCapacity ns r amount b) = nodes_alike ns
  named_nodes_alike (constraint.RunningCapacity ns amount b) = nodes_alike ns
  named_nodes_alike (constraint.MaxOnline ns amount b) = nodes_alike ns
  named_nodes_alike (constraint.Overbook ns r num den) = nodes_alike ns
  named_nodes_alike (constraint.Online ns) = nodes_alike ns
  named_nodes_alike (constraint.Offline ns) = nodes_alike ns
  named_nodes_alike (constraint.Among vs groups b) = λ i. list_all (λ (ns : NodeSet). nodes_alike ns i) groups
  named_nodes_alike _ = refl

  named_resource_alike : (c : Constraint) → is_named_resource other c ≡ is_named_resource k c
  named_resource_alike (constraint.Preserve vs r amount) = rw resources refl
  named_resource_alike (constraint.ResourceCapacity ns r amount b) = rw resources refl
  named_resource_alike (constraint.Overbook ns r num den) = rw resources refl
  named_resource_alike _ = refl

  pub rule_alike : (c : Constraint) → is_rule k c ≡ true → is_rule other c ≡ true
  rule_alike c rule = rw (machines, named_nodes_alike c, named_resource_alike c) rule

-- ---- the whole

module _ (p : Instance) (sound : IsInstance p) (plan : PlanChoices) (is : IsPlanOf p plan) (valid : IsValid p (choices_of plan)) (phases : Phases) (ex : IsExecution p (choices_of plan) phases) (q : Instance) (rest : IsRest p (choices_of plan) phases q) where
  abbrev done : Choices
  done = done_choices (choices_of plan) phases

  abbrev machine_now : ℕ → Machine → Machine
  machine_now v = machine_after p v (done (vm v))

  abbrev node_now : ℕ → Node → Node
  node_now n = node_after (done (node n))

  machines_again : (P : List ℕ → List (Option Duration) → Bool) → ((v : ℕ) (m : Machine) → slice_get p.machines v ≡ Some m → P m.usage m.own ≡ true → P (map (demand_of p v) (range_with_len 0 max_resources)) m.own ≡ true) →
      All (λ m. P m.usage m.own ≡ true) p.machines → All (λ m. P m.usage m.own ≡ true) q.machines
  machines_again P demands all =
      all_again machine_now p.machines q.machines rest.machines (λ m. P m.usage m.own ≡ true) (λ m. P m.usage m.own ≡ true)
      (λ v m there h. machine_again P p v (done (vm v)) m h (demands v m there h)) all

  nodes_again : (P : List ℕ → List (Option Duration) → Bool) → All (λ x. P x.capacity x.own ≡ true) p.nodes → All (λ x. P x.capacity x.own ≡ true) q.nodes
  nodes_again P all =
      all_again node_now p.nodes q.nodes rest.nodes (λ x. P x.capacity x.own ≡ true) (λ x. P x.capacity x.own ≡ true)
      (λ n x there h. node_again P (done (node n)) x h) all

  same_names : names_of (inventory_of q) ≡ names_of (inventory_of p)
  same_names =
      let machines = names_again (λ (m : Machine). m.name) machine_now (λ v. named_machine p v (done (vm v))) p.machines q.machines rest.machines in
      let nodes = names_again (λ (x : Node). x.name) node_now (λ n. named_node (done (node n))) p.nodes q.nodes rest.nodes in
      λ i. machines i ++ nodes i

  hosts : All (λ m. host_is_online q.nodes m.state ≡ true) q.machines
  hosts v m l =
      let online : host_is_online q.nodes (state_of q v) ≡ true = rest_hosts p sound plan is valid phases ex q rest v l in
      subst (λ (s : State). host_is_online q.nodes s ≡ true) (ap state_in (slice_get-get_or q.machines v m l)) online

  inventory : IsInventory (inventory_of q)
  inventory = record {
    few_resources = omega (arith, ap length rest.resources, sound.inventory.few_resources);
    few_nodes = omega (arith, nodes_as_many p (choices_of plan) phases q rest, sound.inventory.few_nodes);
    few_machines = omega (arith, machines_as_many p (choices_of plan) phases q rest, sound.inventory.few_machines);
    each_kind = ap length rest.durations ∙ sound.inventory.each_kind;
    named_resources = subst (All (λ name. is_name name ≡ true)) (sym rest.resources) sound.inventory.named_resources;
    named_nodes =
        all_again node_now p.nodes q.nodes rest.nodes (λ x. is_name x.name ≡ true) (λ x. is_name x.name ≡ true)
        (λ n x there h. ap is_name (named_node (done (node n)) x) ∙ h) sound.inventory.named_nodes;
    named_machines =
        all_again machine_now p.machines q.machines rest.machines (λ m. is_name m.name ≡ true) (λ m. is_name m.name ≡ true)
        (λ v m there h. ap is_name (named_machine p v (done (vm v)) m) ∙ h) sound.inventory.named_machines;
    apart_resources = ap are_distinct rest.resources ∙ sound.inventory.apart_resources;
    apart = ap are_distinct same_names ∙ sound.inventory.apart;
    durations_fit = rw (rest.resources, rest.durations) sound.inventory.durations_fit;
    hosts = hosts;
    nodes_have_places = nodes_again has_places sound.inventory.nodes_have_places;
    machines_have_places = machines_again has_places (λ v m there h. and_from _ _ (eq-eqb _ _ (length-map-range_with_len (demand_of p v) 0 max_resources)) (and_parts _ _ h).1) sound.inventory.machines_have_places;
    nodes_fit = rw rest.resources (nodes_again (λ amounts own. amounts_fit (length p.resources) amounts && node_own_fits (length p.resources) own) sound.inventory.nodes_fit);
    machines_fit =
        rw rest.resources
        (machines_again (λ amounts own. amounts_fit (length p.resources) amounts && machine_own_fits (length p.resources) own)
        (λ v m there h. let fit = and_parts _ _ h in and_from _ _ (demands_fit p sound v m there fit.0) fit.1) sound.inventory.machines_fit);
  }

pub rest_is_sound : RestIsSound
rest_is_sound p sound plan is valid phases ex q rest = record {
  inventory = inventory p sound plan is valid phases ex q rest;
  horizon = omega (arith, rest.horizon, sound.horizon);
  few = omega (arith, ap length rest.constraints, sound.few);
  rules =
      subst (All (λ c. is_rule (inventory_of q) c ≡ true)) (sym rest.constraints)
      (All-weaker (λ c. is_rule (inventory_of p) c ≡ true) (λ c. is_rule (inventory_of q) c ≡ true)
      (rule_alike (inventory_of p) (inventory_of q) (machines_as_many p (choices_of plan) phases q rest) (nodes_as_many p (choices_of plan) phases q rest) rest.resources) p.constraints sound.rules);
}
