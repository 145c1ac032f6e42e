-- The nodes, machines and constraints of a part, by tables, are those that the definitions give.
use Rattle.std.specs.List.{filter_map}
use Rattle.base.proofs.Public.{◌≡◌, ℕ, ◌<◌, ◌≤◌, Bool, true, false, not, ◌&&◌, ◌||◌, ◌==◌, List, [], ◌∷◌, ◌++◌, length, map, filter, Option, Some, None, option_map, refl, sym, ap, ap₂, subst, ◌∙◌, All, All-head, All-tail, and_from, and_parts, arith, eq-eqb, eqb-true, false≢true, get_or, get_or_default, get_or_from_slice_get, ltb-true, or_left, or_right, slice_get, slice_get_read, slice_get_within}
use Rattle.cluster.specs.declared.ids.NodeId.{NodeId}
use Rattle.cluster.specs.declared.ids.VmId.{VmId}
use Rattle.cluster.specs.declared.machines.Machine.{Machine}
use Rattle.cluster.specs.declared.nodes.Node.{Node}
use Rattle.cluster.specs.declared.sets.NodeSet.{NodeSet}
use Rattle.cluster.specs.declared.states.State.{State}
use Rattle.cluster.specs.declared.states.State.TheVariants.{Init, Ready, Running, Sleeping, Gone}
use Rattle.cluster.specs.States.{host_of}
use Rattle.cluster.proofs.Public.{is_online-lt}
use Rattle.catalogue.specs.Prelude.{all_of, are_below, are_named_machines, are_named_nodes, differ, host_is_online, Instance, inventory_of, is_fitting, is_named_resource, is_rule, IsInstance, machines_in, max_nodes}
use Rattle.catalogue.specs.declared.constraint.Constraint.{Constraint}
use Rattle.catalogue.specs.declared.constraint.Constraint.TheVariants.{Spread, Ban, Fence, Gather, Lonely, Among, Split as SplitOf, Root, Precedence, Serialize, Preserve, ResourceCapacity, RunningCapacity, MaxOnline, Overbook, Online, Offline, Running as WantedRunning, Sleeping as WantedSleeping, Ready as WantedReady, Killed}
use Rattle.slices.specs.Elements.{machine_count, node_count, state_in, state_of}
use Rattle.slices.specs.Forms.{Form, form_of, members}
use Rattle.slices.specs.Holds.{IsMember}
use Rattle.slices.proofs.Public.{sound_form}
use Rattle.parts.specs.Cuts.{cut_constraint, cut_machines, cut_nodes, renumbered_node, renumbered_state}
use Rattle.parts.specs.Groups.{group_by, in_group, machine_group}
use Rattle.parts.specs.Laws.{Split}
use Rattle.parts.specs.Numbers.{new_number}
use Rattle.parts.specs.Parts.{constraints_in, cut_host, has_form, in_part, machines_in_part, nodes_in, part_of}
use Rattle.parts.specs.Splits.{home, is_joint, names}
use Rattle.parts.proofs.Public.{inside_home, part_is_sound}
use Rattle.partition.specs.declared.faults.Division.{Division}
use Rattle.partition.specs.declared.numbering.Numbers.{Numbers}
use Rattle.partition.specs.Cutting.{constraints_by, cut_by, has_by, machine_by, machines_by, nodes_by, numbered, part_by, part_machines, part_nodes}
use Rattle.partition.specs.Division.{Divides, group_number}
use Rattle.partition.specs.Numbering.{AreNumbers}
use Rattle.partition.specs.Reach.{at, form_reach}
use Rattle.partition.proofs.CutLemmas.{machine_as, machines_as, node_new, nodes_as, same_filter, same_given}
use Rattle.partition.proofs.DivisionLemmas.{in_as_number}
use Rattle.partition.proofs.FaultLemmas.{at_machine, named_below, reach_of_form}
use Rattle.partition.proofs.ReachLemmas.{home_of}

same_lists : {A B : Type 0} (f g : A → B) → ((x : A) → f x ≡ g x) → (xs : List A) → map f xs ≡ map g xs
same_lists f g same [] = refl
same_lists {A = A} {B = B} f g same (x ∷ xs) = ap₂ (λ (y : B) (ys : List B). y ∷ ys) (same x) (same_lists f g same xs)

-- the machines of two lists
below_both : (n : ℕ) (xs ys : List VmId) → are_below n (xs ++ ys) ≡ true → (are_below n xs ≡ true) × (are_below n ys ≡ true)
below_both n [] ys below = (refl, below)
below_both n (x ∷ xs) ys below =
    let sides = and_parts _ (are_below n (xs ++ ys)) below in
    let rest = below_both n xs ys sides.1 in
    (and_from _ _ sides.0 rest.0, rest.1)

named_machines : (k : Instance) (c : Constraint) → is_rule (inventory_of k) c ≡ true → are_below (machine_count k) (machines_in c) ≡ true
named_machines k c rule = by (are_named_machines (inventory_of k) c) (are_named_nodes (inventory_of k) c) (is_named_resource (inventory_of k) c) (differ (machines_in c)) (is_fitting c) rule
  where
    by : (a b x y z : Bool) → (a && b && x && y && z) ≡ true → a ≡ true
    by true b x y z h = refl
    by false b x y z h = absurd (false≢true h)

module _ (p : Instance) (groups : List NodeSet) (split : Split p groups) (d : Division) (numbers : Numbers) (divides : Divides p groups d.nodes.items d.machines.items) (are : AreNumbers p groups numbers.nodes.items numbers.machines.items) (i : ℕ) where
  few : node_count p ≤ max_nodes
  few = split.sound.inventory.few_nodes

  list_as : (vs : List VmId) → are_below (machine_count p) vs ≡ true → machines_by d.machines.items numbers.machines.items i vs ≡ cut_machines (in_part p groups i) vs
  list_as = machines_as p groups d.nodes.items d.machines.items numbers.nodes.items numbers.machines.items divides are i

  set_as : (set : NodeSet) → nodes_by d.nodes.items numbers.nodes.items i set ≡ cut_nodes (in_group groups i) (node_count p) set
  set_as = nodes_as p groups d.nodes.items d.machines.items numbers.nodes.items numbers.machines.items divides are few i

  lists_as : (parts : List (List VmId)) → are_below (machine_count p) (all_of parts) ≡ true → map (machines_by d.machines.items numbers.machines.items i) parts ≡ map (cut_machines (in_part p groups i)) parts
  lists_as [] below = refl
  lists_as (vs ∷ parts) below =
      let sides = below_both (machine_count p) vs (all_of parts) below in
      ap₂ (λ (x : List VmId) (xs : List (List VmId)). x ∷ xs) (list_as vs sides.0) (lists_as parts sides.1)

  one_as : (v : VmId) → are_below (machine_count p) (v ∷ []) ≡ true → in_part p groups i v.0 ≡ true → numbered numbers.machines.items v ≡ record { 0 = new_number (in_part p groups i) v.0 }
  one_as v below mine = machine_as p groups d.nodes.items d.machines.items numbers.nodes.items numbers.machines.items divides are i v (member_first below) (eqb-true _ _ mine)
    where
      member_first : are_below (machine_count p) (v ∷ []) ≡ true → v.0 < machine_count p
      member_first b = ltb-true v.0 (machine_count p) (and_parts _ true b).0

  -- ---- constraints

  -- the machines of a joint constraint are in the part
  abbrev Inside : Constraint → Type 0
  Inside c = is_joint (form_of c) ≡ true → (v : ℕ) → IsMember (members (form_of c)) v → in_part p groups i v ≡ true

  cut_as : (c : Constraint) → are_below (machine_count p) (machines_in c) ≡ true → Inside c → cut_by d numbers i c ≡ cut_constraint (in_part p groups i) (in_group groups i) (node_count p) c
  cut_as (Spread vs b) below inside = ap (λ (l : List VmId). Spread l b) (list_as vs below)
  cut_as (Ban vs ns b) below inside = ap₂ (λ (l : List VmId) (s : NodeSet). Ban l s b) (list_as vs below) (set_as ns)
  cut_as (Fence vs ns b) below inside = ap₂ (λ (l : List VmId) (s : NodeSet). Fence l s b) (list_as vs below) (set_as ns)
  cut_as (Gather vs b) below inside = ap (λ (l : List VmId). Gather l b) (list_as vs below)
  cut_as (Lonely vs b) below inside = ap (λ (l : List VmId). Lonely l b) (list_as vs below)
  cut_as (Among vs sets b) below inside = ap₂ (λ (l : List VmId) (s : List NodeSet). Among l s b) (list_as vs below) (same_lists _ _ set_as sets)
  cut_as (SplitOf parts b) below inside = ap (λ (l : List (List VmId)). SplitOf l b) (lists_as parts below)
  cut_as (Root vs) below inside = ap Root (list_as vs below)
  cut_as (Precedence before after) below inside =
      let sides = and_parts _ (are_below (machine_count p) (after ∷ [])) below in
      ap₂ Precedence (one_as before (and_from _ _ sides.0 refl) (inside refl before.0 (or_left _ _ (eq-eqb before.0 before.0 refl))))
      (one_as after sides.1 (inside refl after.0 (or_right (before.0 == after.0) _ (or_left _ _ (eq-eqb after.0 after.0 refl)))))
  cut_as (Serialize vs) below inside = ap Serialize (list_as vs below)
  cut_as (Preserve vs r amount) below inside = ap (λ (l : List VmId). Preserve l r amount) (list_as vs below)
  cut_as (ResourceCapacity ns r amount b) below inside = ap (λ (s : NodeSet). ResourceCapacity s r amount b) (set_as ns)
  cut_as (RunningCapacity ns amount b) below inside = ap (λ (s : NodeSet). RunningCapacity s amount b) (set_as ns)
  cut_as (MaxOnline ns amount b) below inside = ap (λ (s : NodeSet). MaxOnline s amount b) (set_as ns)
  cut_as (Overbook ns r num den) below inside = ap (λ (s : NodeSet). Overbook s r num den) (set_as ns)
  cut_as (Online ns) below inside = ap Online (set_as ns)
  cut_as (Offline ns) below inside = ap Offline (set_as ns)
  cut_as (WantedRunning vs) below inside = ap WantedRunning (list_as vs below)
  cut_as (WantedSleeping vs) below inside = ap WantedSleeping (list_as vs below)
  cut_as (WantedReady vs) below inside = ap WantedReady (list_as vs below)
  cut_as (Killed vs) below inside = ap Killed (list_as vs below)

  -- whether the part has it
  has_as : (f : Form) → are_below (machine_count p) (members f) ≡ true → has_by d i f ≡ has_form p groups i f
  has_as f below = by (is_joint f) refl
    where
      by : (b : Bool) → is_joint f ≡ b → has_by d i f ≡ has_form p groups i f
      by false other = rw other refl
      by true joint =
          rw joint (ap (λ (h : ℕ). h == i) (sym (home_of (names p groups f) (length groups) (named_below p groups d.nodes.items d.machines.items divides f)
          (form_reach d.machines.items d.nodes.items f) (reach_of_form p groups d.nodes.items d.machines.items divides f joint below))))

  -- what is known of each constraint
  record Good (c : Constraint) : Type 0 where
    rule : is_rule (inventory_of p) c ≡ true
    inside : has_form p groups i (form_of c) ≡ true → Inside c

  good_at : (k : ℕ) (c : Constraint) → slice_get p.constraints k ≡ Some c → is_rule (inventory_of p) c ≡ true → Good c
  good_at k c here rule = record {
    rule = rule;
    inside = λ has joint v member.
        let at_home : home p groups (form_of c) ≡ i = eqb-true _ _ (sym (ap (λ (b : Bool). not b || (home p groups (form_of c) == i)) joint) ∙ has) in
        subst (λ (j : ℕ). in_part p groups j v ≡ true) at_home ((inside_home p groups split k c here joint).machines v member);
  }

  all_good : All Good p.constraints
  all_good k c l = good_at k (get_or p.constraints k c) (slice_get_read p.constraints (length p.constraints) k (get_or p.constraints k c) refl l (here k c l)) (split.sound.rules k c l)
    where
      here : (k : ℕ) (c : Constraint) → k < length p.constraints → get_or p.constraints k c ≡ get_or p.constraints k (get_or p.constraints k c)
      here k c l = get_or_default p.constraints k c (get_or p.constraints k c) l

  constraints_same : (cs : List Constraint) → All Good cs → constraints_by d numbers i cs ≡ map (cut_constraint (in_part p groups i) (in_group groups i) (node_count p)) (filter (λ c. has_form p groups i (form_of c)) cs)
  constraints_same [] all = refl
  constraints_same (c ∷ cs) all = by (has_form p groups i (form_of c)) refl (constraints_same cs (All-tail Good c cs all))
    where
      good : Good c
      good = All-head Good c cs all

      same : has_by d i (form_of c) ≡ has_form p groups i (form_of c)
      same = has_as (form_of c) (sound_form p c good.rule).listed

      by : (b : Bool) → has_form p groups i (form_of c) ≡ b →
          constraints_by d numbers i cs ≡ map (cut_constraint (in_part p groups i) (in_group groups i) (node_count p)) (filter (λ c. has_form p groups i (form_of c)) cs) →
          constraints_by d numbers i (c ∷ cs) ≡ map (cut_constraint (in_part p groups i) (in_group groups i) (node_count p)) (filter (λ c. has_form p groups i (form_of c)) (c ∷ cs))
      by true e rest = rw (same, e) (ap₂ (λ (x : Constraint) (xs : List Constraint). x ∷ xs) (cut_as c (named_machines p c good.rule) (good.inside e)) rest)
      by false e rest = rw (same, e) rest

  -- ---- nodes and machines

  nodes_same : part_nodes d i p.nodes ≡ nodes_in (in_group groups i) p.nodes (node_count p)
  nodes_same = ap (filter_map (slice_get p.nodes)) (same_filter _ _ 0 (node_count p) (λ n low high. in_as_number p groups d.nodes.items divides.covers n i (omega (arith, high))))

  -- a host of the group has its number there
  host_new : (host : NodeId) → host.0 < node_count p → group_number groups host.0 ≡ i → renumbered_node (at numbers.nodes.items) host ≡ renumbered_node (new_number (in_group groups i)) host
  host_new host l same =
      ap (λ (k : ℕ). record { 0 = k }) (node_new p groups d.nodes.items d.machines.items numbers.nodes.items numbers.machines.items divides are i host.0 l same)

  host_in : (state : State) → host_is_online p.nodes state ≡ true → ((host : NodeId) → host_of state ≡ Some host → group_number groups host.0 ≡ i) → renumbered_state (at numbers.nodes.items) state ≡ renumbered_state (new_number (in_group groups i)) state
  host_in Init online same = refl
  host_in Ready online same = refl
  host_in (Running host) online same = ap Running (host_new host (is_online-lt p.nodes host.0 online) (same host refl))
  host_in (Sleeping host) online same = ap Sleeping (host_new host (is_online-lt p.nodes host.0 online) (same host refl))
  host_in Gone online same = refl

  host_group : (v : ℕ) (host : NodeId) → host_of (state_of p v) ≡ Some host → machine_group p groups v ≡ group_number groups host.0
  unfolding machine_group
  host_group v host e = ap (group_by p groups v) e

  machine_same : (v : ℕ) → in_part p groups i v ≡ true → option_map (machine_by numbers.nodes.items) (slice_get p.machines v) ≡ option_map (cut_host (in_group groups i)) (slice_get p.machines v)
  machine_same v mine = by (slice_get p.machines v) refl
    where
      by : (o : Option Machine) → slice_get p.machines v ≡ o → option_map (machine_by numbers.nodes.items) o ≡ option_map (cut_host (in_group groups i)) o
      by None e = refl
      by (Some m) e =
          let l : v < length p.machines = slice_get_within p.machines v m e in
          let online : host_is_online p.nodes m.state ≡ true = subst (λ (x : Machine). host_is_online p.nodes x.state ≡ true) (get_or_from_slice_get p.machines v m m e) (split.sound.inventory.hosts v m l) in
          ap (λ (s : State). Some (record m { state = s }))
          (host_in m.state online (λ host at_host. sym (host_group v host (ap (λ (o : Option Machine). host_of (state_in o)) e ∙ at_host)) ∙ eqb-true _ _ mine))

  machines_same : part_machines d numbers i p.machines ≡ machines_in_part (in_part p groups i) (in_group groups i) p.machines (machine_count p)
  machines_same =
      ap (filter_map (λ v. option_map (machine_by numbers.nodes.items) (slice_get p.machines v)))
      (same_filter _ (in_part p groups i) 0 (machine_count p) (λ v low high. ap (λ (j : ℕ). j == i) (at_machine p groups d.nodes.items d.machines.items divides v (omega (arith, high))))) ∙
      same_given _ _ (in_part p groups i) 0 (machine_count p) (λ v low high mine. machine_same v mine)

  -- ---- the part

  abbrev instance_of : List Node → List Machine → List Constraint → Instance
  instance_of ns ms cs = record { resources = p.resources; durations = p.durations; nodes = ns; machines = ms; horizon = p.horizon; constraints = cs }

  pub part_as : (cs : List Constraint) → cs ≡ constraints_by d numbers i p.constraints → part_by p d numbers i cs ≡ part_of p groups i
  unfolding part_of
  part_as cs is =
      ap (λ (l : List Constraint). part_by p d numbers i l) (is ∙ constraints_same p.constraints all_good) ∙
      ap₂ (λ (ns : List Node) (ms : List Machine). instance_of ns ms (constraints_in p groups i)) nodes_same machines_same

  pub part_sound : (cs : List Constraint) → cs ≡ constraints_by d numbers i p.constraints → IsInstance (part_by p d numbers i cs)
  part_sound cs is = subst IsInstance (sym (part_as cs is)) (part_is_sound p groups split i)
