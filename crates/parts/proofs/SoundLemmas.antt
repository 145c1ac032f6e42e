-- A part is an instance: nothing stands in it that would have been refused.
use Rattle.std.proofs.Common.{IsTrue, slice_get, slice_index_or}
use Rattle.std.specs.List.{filter}
use Rattle.base.proofs.Public.{◌≡◌, inl, inr, ℕ, zero, suc, ◌+◌, ◌-◌, ◌<◌, ◌≤◌, Bool, true, false, not, ◌==◌, ◌&&◌, ◌||◌, List, [], ◌∷◌, ◌++◌, length, map, nat_lt, Option, Some, option_map, refl, sym, ap, ap₂, subst, ◌∙◌, All, and_from, and_parts, arith, bytes_eq, cases_Bool, cases_lt, eq-eqb, false≢true, get_or-append_right, get_or_append_left, get_or_default, get_or_from_slice_get, length-append, length-map, list_all, list_any, lt-ltb, ltb-true, ne_eqb, nat_le, or_left, or_right, if◌then◌else◌, slice_get-map, slice_get_within}
use Rattle.cluster.specs.declared.ids.NodeId.{NodeId}
use Rattle.cluster.specs.declared.ids.VmId.{VmId}
use Rattle.cluster.specs.declared.machines.Machine.{Machine}
use Rattle.cluster.specs.declared.nodes.Node.{Node}
use Rattle.cluster.specs.declared.sets.NodeSet.{NodeSet}
use Rattle.cluster.specs.declared.states.State.{State}
use Rattle.cluster.specs.declared.states.State.TheVariants.{Init, Ready, Running, Sleeping, Gone}
use Rattle.cluster.specs.States.{host_of}
use Rattle.cluster.specs.declared.durations.Duration.{Duration}
use Rattle.cluster.specs.Prelude.{are_distinct, duration_fits, has_places, is_name, machine_fits, names_of, names_of_machines, names_of_nodes, node_fits}
use Rattle.catalogue.specs.Prelude.{all_of, are_below, are_named_machines, are_named_nodes, are_nodes, differ, host_is_online, Instance, Inventory, inventory_of, is_fitting, is_member, is_named_resource, is_online, is_rule, IsInstance, machines_in, max_groups, max_horizon, max_nodes, max_parts, max_resources}
use Rattle.catalogue.specs.declared.constraint.Constraint.{Constraint}
use Rattle.catalogue.specs.declared.constraint.Constraint.TheVariants.{Spread, Ban, Fence, Gather, Lonely, Among, Split as SplitOf, Root, Precedence, Serialize, Preserve, ResourceCapacity, RunningCapacity, MaxOnline, Overbook, Online, Offline, Running as WantedRunning, Sleeping as WantedSleeping, Ready as WantedReady, Killed}
use Rattle.catalogue.proofs.Public.{are_nodes-within}
use Rattle.slices.specs.Elements.{machine_count, node_count, state_in}
use Rattle.slices.specs.Forms.{form_of, members}
use Rattle.parts.specs.Cuts.{cut_constraint, cut_machine, cut_machines, cut_nodes, renumbered_state}
use Rattle.parts.specs.Embeds.{Embeds, node_at, vm_at}
use Rattle.parts.specs.Groups.{in_group}
use Rattle.parts.specs.Laws.{PartIsSound, Split}
use Rattle.parts.specs.Numbers.{new_number, old_number, passing}
use Rattle.parts.specs.Parts.{cut_host, has_form, in_part, part_of}
use Rattle.parts.specs.Splits.{home, is_joint}
use Rattle.parts.proofs.CutLemmas.{no_more_nodes}
use Rattle.parts.proofs.EmbedLemmas.{host_ours, machine_there, node_there, the_item}
use Rattle.parts.proofs.InsideLemmas.{inside_home}
use Rattle.parts.proofs.NumberLemmas.{length-passing, new_in, new-le, old_grows, old_new}
use Rattle.parts.proofs.SplitLemmas.{covered, part_embeds}
use Rattle.parts.proofs.ValidLemmas.{at_home}
use Rattle.parts.proofs.ViewLemmas.{vm_in, vm_mine, node_in}

-- ---- distinct names, by their places

none_passes : {A : Type 0} (test : A → Bool) (xs : List A) (k : ℕ) (d : A) → list_any test xs ≡ false → k < length xs → test (slice_index_or xs k d) ≡ false
none_passes test [] k d none l = absurd (omega arith)
none_passes test (x ∷ xs) zero d none l = (or_none (test x) (list_any test xs) none).0
  where
    or_none : (a b : Bool) → (a || b) ≡ false → (a ≡ false) × (b ≡ false)
    or_none true b e = absurd (false≢true (sym e))
    or_none false b e = (refl, e)
none_passes test (x ∷ xs) (suc k) d none l = none_passes test xs k d (or_none (test x) (list_any test xs) none) (omega arith)
  where
    or_none : (a b : Bool) → (a || b) ≡ false → b ≡ false
    or_none true b e = absurd (false≢true (sym e))
    or_none false b e = e

each_fails : {A : Type 0} (test : A → Bool) (xs : List A) → ((k : ℕ) (d : A) → k < length xs → test (slice_index_or xs k d) ≡ false) → list_any test xs ≡ false
each_fails test [] fails = refl
each_fails test (x ∷ xs) fails = rw (fails 0 x (omega arith)) (each_fails test xs (λ k d l. fails (suc k) d (omega arith)))

-- no two places have the same name
abbrev AreApartAt : List (List ℕ) → Type 0
AreApartAt xs = (i j : ℕ) → i < j → j < length xs → bytes_eq (slice_index_or xs i []) (slice_index_or xs j []) ≡ false

apart_at : (xs : List (List ℕ)) → are_distinct xs ≡ true → AreApartAt xs
apart_at [] h i j less l = absurd (omega arith)
apart_at (x ∷ xs) h zero zero less l = absurd (omega arith)
apart_at (x ∷ xs) h zero (suc j) less l = none_passes (bytes_eq x) xs j [] (not_true (list_any (bytes_eq x) xs) (and_parts (not (list_any (bytes_eq x) xs)) (are_distinct xs) h).0) (omega arith)
  where
    not_true : (b : Bool) → not b ≡ true → b ≡ false
    not_true true e = absurd (false≢true e)
    not_true false e = refl
apart_at (x ∷ xs) h (suc i) zero less l = absurd (omega arith)
apart_at (x ∷ xs) h (suc i) (suc j) less l = apart_at xs (and_parts (not (list_any (bytes_eq x) xs)) (are_distinct xs) h).1 i j (omega arith) (omega arith)

distinct_from : (xs : List (List ℕ)) → AreApartAt xs → are_distinct xs ≡ true
distinct_from [] apart = refl
distinct_from (x ∷ xs) apart =
    and_from (not (list_any (bytes_eq x) xs)) (are_distinct xs)
    (ap not (each_fails (bytes_eq x) xs (λ k d l. ap (bytes_eq x) (get_or_default xs k d [] l) ∙ apart 0 (suc k) (omega arith) (omega arith))))
    (distinct_from xs (λ i j less l. apart (suc i) (suc j) (omega arith) (omega arith)))

-- names that stand in the same order in another list
distinct_part : (few many : List (List ℕ)) (place : ℕ → ℕ) → ((i j : ℕ) → i < j → j < length few → place i < place j) → ((i : ℕ) → i < length few → (place i < length many) × (slice_index_or few i [] ≡ slice_index_or many (place i) [])) →
    are_distinct many ≡ true → are_distinct few ≡ true
distinct_part few many place climbs same distinct =
    distinct_from few (λ i j less l.
    let a = same i (omega (arith, less, l)) in
    let b = same j l in
    ap₂ bytes_eq a.1 b.1 ∙ apart_at many distinct (place i) (place j) (climbs i j less l) b.0)

-- ---- lists that are cut down

cut-append : (mine : ℕ → Bool) (vs ws : List VmId) → cut_machines mine (vs ++ ws) ≡ cut_machines mine vs ++ cut_machines mine ws
cut-append mine [] ws = refl
cut-append mine (v ∷ vs) ws =
    elim (cases_Bool (mine v.0)) [
      | inl pass ↦ rw pass (ap (λ (l : List VmId). cut_machine mine v ∷ l) (cut-append mine vs ws))
      | inr fail ↦ rw fail (cut-append mine vs ws)
    ]

cut-all_of : (mine : ℕ → Bool) (parts : List (List VmId)) → all_of (map (cut_machines mine) parts) ≡ cut_machines mine (all_of parts)
cut-all_of mine [] = refl
cut-all_of mine (vs ∷ parts) = ap (λ (l : List VmId). cut_machines mine vs ++ l) (cut-all_of mine parts) ∙ sym (cut-append mine vs (all_of parts))

-- machines that are listed and differ still do
cut_below : (mine : ℕ → Bool) (n : ℕ) (vs : List VmId) → are_below n vs ≡ true → are_below (length (passing mine n)) (cut_machines mine vs) ≡ true
cut_below mine n [] below = refl
cut_below mine n (v ∷ vs) below =
    let sides = and_parts (nat_lt v.0 n) (are_below n vs) below in
    elim (cases_Bool (mine v.0)) [
      | inl pass ↦ rw pass (and_from _ _ (lt-ltb _ _ (new_in mine n v.0 (ltb-true v.0 n sides.0) pass)) (cut_below mine n vs sides.1))
      | inr fail ↦ rw fail (cut_below mine n vs sides.1)
    ]

-- one that is not in the list is not in what it is cut to
cut_not_member : (mine : ℕ → Bool) (n v : ℕ) → v < n → mine v ≡ true → (vs : List VmId) → are_below n vs ≡ true → is_member vs v ≡ false → is_member (cut_machines mine vs) (new_number mine v) ≡ false
cut_not_member mine n v l pass [] below none = refl
cut_not_member mine n v l pass (w ∷ vs) below none =
    let sides = and_parts (nat_lt w.0 n) (are_below n vs) below in
    let parts = or_none (w.0 == v) (is_member vs v) none in
    elim (cases_Bool (mine w.0)) [
      | inl here ↦ rw (here, other w (ltb-true w.0 n sides.0) here parts.0) (cut_not_member mine n v l pass vs sides.1 parts.1)
      | inr out ↦ rw out (cut_not_member mine n v l pass vs sides.1 parts.1)
    ]
  where
    or_none : (a b : Bool) → (a || b) ≡ false → (a ≡ false) × (b ≡ false)
    or_none true b e = absurd (false≢true (sym e))
    or_none false b e = (refl, e)

    other : (w : VmId) → w.0 < n → mine w.0 ≡ true → (w.0 == v) ≡ false → (new_number mine w.0 == new_number mine v) ≡ false
    other w lw here apart = ne_eqb _ _ (λ same. false≢true (sym apart ∙ eq-eqb _ _ (sym (old_new mine n w.0 lw here) ∙ ap (old_number mine n) same ∙ old_new mine n v l pass)))

cut_differ : (mine : ℕ → Bool) (n : ℕ) (vs : List VmId) → are_below n vs ≡ true → differ vs ≡ true → differ (cut_machines mine vs) ≡ true
cut_differ mine n [] below h = refl
cut_differ mine n (v ∷ vs) below h =
    let sides = and_parts (nat_lt v.0 n) (are_below n vs) below in
    let parts = and_parts (not (is_member vs v.0)) (differ vs) h in
    elim (cases_Bool (mine v.0)) [
      | inl pass ↦ rw pass (and_from _ _ (ap not (cut_not_member mine n v.0 (ltb-true v.0 n sides.0) pass vs sides.1 (not_true (is_member vs v.0) parts.0))) (cut_differ mine n vs sides.1 parts.1))
      | inr fail ↦ rw fail (cut_differ mine n vs sides.1 parts.1)
    ]
  where
    not_true : (b : Bool) → not b ≡ true → b ≡ false
    not_true true e = absurd (false≢true e)
    not_true false e = refl

-- both machines of a precedence are in its part
abbrev BothMine : (ℕ → Bool) → Constraint → Type 0
BothMine mine x = is_joint (form_of x) ≡ true → (v : ℕ) → IsTrue (is_member (machines_in x) v) → IsTrue (mine v)

cut_machines_in : (mine ours : ℕ → Bool) (n : ℕ) (x : Constraint) → BothMine mine x → machines_in (cut_constraint mine ours n x) ≡ cut_machines mine (machines_in x)
cut_machines_in mine ours n (Spread vs b) both = refl
cut_machines_in mine ours n (Ban vs ns b) both = refl
cut_machines_in mine ours n (Fence vs ns b) both = refl
cut_machines_in mine ours n (Gather vs b) both = refl
cut_machines_in mine ours n (Lonely vs b) both = refl
cut_machines_in mine ours n (Among vs sets b) both = refl
cut_machines_in mine ours n (SplitOf parts b) both = cut-all_of mine parts
cut_machines_in mine ours n (Root vs) both = refl
cut_machines_in mine ours n (Precedence before after) both = sym (two (both refl before.0 (or_left _ _ (eq-eqb before.0 before.0 refl))) (both refl after.0 (or_right (before.0 == after.0) _ (or_left _ _ (eq-eqb after.0 after.0 refl)))))
  where
    two : mine before.0 ≡ true → mine after.0 ≡ true → cut_machines mine (before ∷ after ∷ []) ≡ cut_machine mine before ∷ cut_machine mine after ∷ []
    two x y = rw (x, y) refl
cut_machines_in mine ours n (Serialize vs) both = refl
cut_machines_in mine ours n (Preserve vs r amount) both = refl
cut_machines_in mine ours n (ResourceCapacity ns r amount b) both = refl
cut_machines_in mine ours n (RunningCapacity ns amount b) both = refl
cut_machines_in mine ours n (MaxOnline ns amount b) both = refl
cut_machines_in mine ours n (Overbook ns r num den) both = refl
cut_machines_in mine ours n (Online ns) both = refl
cut_machines_in mine ours n (Offline ns) both = refl
cut_machines_in mine ours n (WantedRunning vs) both = refl
cut_machines_in mine ours n (WantedSleeping vs) both = refl
cut_machines_in mine ours n (WantedReady vs) both = refl
cut_machines_in mine ours n (Killed vs) both = refl

module _ (mine ours : ℕ → Bool) (p q : Inventory) (few : length p.nodes ≤ max_nodes) (machines : length q.machines ≡ length (passing mine (length p.machines))) (nodes : length q.nodes ≡ length (passing ours (length p.nodes))) (resources : q.resources ≡ p.resources) where
  cut_listed : (ns : NodeSet) → are_nodes q (cut_nodes ours (length p.nodes) ns) ≡ true
  cut_listed ns = sym (are_nodes-within q (cut_nodes ours (length p.nodes) ns) true ((λ t m past. no_more_nodes ours (length p.nodes) few ns m (omega (arith, past, nodes))), (λ within. refl)))

  all_cut_listed : (sets : List NodeSet) → list_all (are_nodes q) (map (cut_nodes ours (length p.nodes)) sets) ≡ true
  all_cut_listed [] = refl
  all_cut_listed (ns ∷ sets) = and_from _ _ (cut_listed ns) (all_cut_listed sets)

  cut_named_nodes : (x : Constraint) → are_named_nodes q (cut_constraint mine ours (length p.nodes) x) ≡ true
  cut_named_nodes (Spread vs b) = refl
  cut_named_nodes (Ban vs ns b) = cut_listed ns
  cut_named_nodes (Fence vs ns b) = cut_listed ns
  cut_named_nodes (Gather vs b) = refl
  cut_named_nodes (Lonely vs b) = refl
  cut_named_nodes (Among vs sets b) = all_cut_listed sets
  cut_named_nodes (SplitOf parts b) = refl
  cut_named_nodes (Root vs) = refl
  cut_named_nodes (Precedence before after) = refl
  cut_named_nodes (Serialize vs) = refl
  cut_named_nodes (Preserve vs r amount) = refl
  cut_named_nodes (ResourceCapacity ns r amount b) = cut_listed ns
  cut_named_nodes (RunningCapacity ns amount b) = cut_listed ns
  cut_named_nodes (MaxOnline ns amount b) = cut_listed ns
  cut_named_nodes (Overbook ns r num den) = cut_listed ns
  cut_named_nodes (Online ns) = cut_listed ns
  cut_named_nodes (Offline ns) = cut_listed ns
  cut_named_nodes (WantedRunning vs) = refl
  cut_named_nodes (WantedSleeping vs) = refl
  cut_named_nodes (WantedReady vs) = refl
  cut_named_nodes (Killed vs) = refl

  cut_named_resource : (x : Constraint) → is_named_resource q (cut_constraint mine ours (length p.nodes) x) ≡ is_named_resource p x
  cut_named_resource (Spread vs b) = refl
  cut_named_resource (Ban vs ns b) = refl
  cut_named_resource (Fence vs ns b) = refl
  cut_named_resource (Gather vs b) = refl
  cut_named_resource (Lonely vs b) = refl
  cut_named_resource (Among vs sets b) = refl
  cut_named_resource (SplitOf parts b) = refl
  cut_named_resource (Root vs) = refl
  cut_named_resource (Precedence before after) = refl
  cut_named_resource (Serialize vs) = refl
  cut_named_resource (Preserve vs r amount) = ap (λ (l : List (List ℕ)). nat_lt r (length l)) resources
  cut_named_resource (ResourceCapacity ns r amount b) = ap (λ (l : List (List ℕ)). nat_lt r (length l)) resources
  cut_named_resource (RunningCapacity ns amount b) = refl
  cut_named_resource (MaxOnline ns amount b) = refl
  cut_named_resource (Overbook ns r num den) = ap (λ (l : List (List ℕ)). nat_lt r (length l)) resources
  cut_named_resource (Online ns) = refl
  cut_named_resource (Offline ns) = refl
  cut_named_resource (WantedRunning vs) = refl
  cut_named_resource (WantedSleeping vs) = refl
  cut_named_resource (WantedReady vs) = refl
  cut_named_resource (Killed vs) = refl

  cut_fitting : (x : Constraint) → is_fitting (cut_constraint mine ours (length p.nodes) x) ≡ is_fitting x
  cut_fitting (Spread vs b) = refl
  cut_fitting (Ban vs ns b) = refl
  cut_fitting (Fence vs ns b) = refl
  cut_fitting (Gather vs b) = refl
  cut_fitting (Lonely vs b) = refl
  cut_fitting (Among vs sets b) = ap (λ (n : ℕ). nat_lt 0 n && nat_le n max_groups) (length-map sets (cut_nodes ours (length p.nodes)))
  cut_fitting (SplitOf parts b) = ap (λ (n : ℕ). nat_le n max_parts) (length-map parts (cut_machines mine))
  cut_fitting (Root vs) = refl
  cut_fitting (Precedence before after) = refl
  cut_fitting (Serialize vs) = refl
  cut_fitting (Preserve vs r amount) = refl
  cut_fitting (ResourceCapacity ns r amount b) = refl
  cut_fitting (RunningCapacity ns amount b) = refl
  cut_fitting (MaxOnline ns amount b) = refl
  cut_fitting (Overbook ns r num den) = refl
  cut_fitting (Online ns) = refl
  cut_fitting (Offline ns) = refl
  cut_fitting (WantedRunning vs) = refl
  cut_fitting (WantedSleeping vs) = refl
  cut_fitting (WantedReady vs) = refl
  cut_fitting (Killed vs) = refl

  pub cut_rule : (x : Constraint) → BothMine mine x → is_rule p x ≡ true → is_rule q (cut_constraint mine ours (length p.nodes) x) ≡ true
  cut_rule x both rule =
      let r = five (are_named_machines p x) (are_named_nodes p x) (is_named_resource p x) (differ (machines_in x)) (is_fitting x) rule in
      let same = cut_machines_in mine ours (length p.nodes) x both in
      let below : are_below (length q.machines) (machines_in (cut_constraint mine ours (length p.nodes) x)) ≡ true =
      ap₂ are_below machines same ∙ cut_below mine (length p.machines) (machines_in x) r.0 in
      let apart : differ (machines_in (cut_constraint mine ours (length p.nodes) x)) ≡ true = ap differ same ∙ cut_differ mine (length p.machines) (machines_in x) r.0 r.2 in
      join below (cut_named_nodes x) (cut_named_resource x ∙ r.1) apart (cut_fitting x ∙ r.3)
    where
      five : (a b c d e : Bool) → (a && b && c && d && e) ≡ true → (a ≡ true) × (c ≡ true) × (d ≡ true) × (e ≡ true)
      five true true true true true h = (refl, refl, refl, refl)
      five true true true true false h = absurd (false≢true h)
      five true true true false e h = absurd (false≢true h)
      five true true false d e h = absurd (false≢true h)
      five true false c d e h = absurd (false≢true h)
      five false b c d e h = absurd (false≢true h)

      join : {a b c d e : Bool} → a ≡ true → b ≡ true → c ≡ true → d ≡ true → e ≡ true → (a && b && c && d && e) ≡ true
      join a b c d e = rw (a, b, c, d, e) refl

-- ---- a part

-- what a joint constraint names are the members of its form
joint_member : (x : Constraint) → is_joint (form_of x) ≡ true → (v : ℕ) → IsTrue (is_member (machines_in x) v) → IsTrue (is_member (members (form_of x)) v)
joint_member (Spread vs b) joint v member = member
joint_member (Ban vs ns b) joint v member = absurd (false≢true joint)
joint_member (Fence vs ns b) joint v member = absurd (false≢true joint)
joint_member (Gather vs b) joint v member = member
joint_member (Lonely vs b) joint v member = member
joint_member (Among vs sets b) joint v member = member
joint_member (SplitOf parts b) joint v member = member
joint_member (Root vs) joint v member = absurd (false≢true joint)
joint_member (Precedence before after) joint v member = member
joint_member (Serialize vs) joint v member = member
joint_member (Preserve vs r amount) joint v member = absurd (false≢true joint)
joint_member (ResourceCapacity ns r amount b) joint v member = member
joint_member (RunningCapacity ns amount b) joint v member = member
joint_member (MaxOnline ns amount b) joint v member = member
joint_member (Overbook ns r num den) joint v member = absurd (false≢true joint)
joint_member (Online ns) joint v member = absurd (false≢true joint)
joint_member (Offline ns) joint v member = absurd (false≢true joint)
joint_member (WantedRunning vs) joint v member = absurd (false≢true joint)
joint_member (WantedSleeping vs) joint v member = absurd (false≢true joint)
joint_member (WantedReady vs) joint v member = absurd (false≢true joint)
joint_member (Killed vs) joint v member = absurd (false≢true joint)

filter-le : {A : Type 0} (test : A → Bool) (xs : List A) → length (filter test xs) ≤ length xs
filter-le test [] = omega arith
filter-le test (x ∷ xs) =
    let later = filter-le test xs in
    elim (cases_Bool (test x)) [
      | inl pass ↦ rw pass (omega (arith, later))
      | inr fail ↦ rw fail (omega (arith, later))
    ]

module _ (p : Instance) (groups : List NodeSet) (i : ℕ) (split : Split p groups) where
  emb : Embeds p (part_of p groups i) (in_part p groups i) (in_group groups i) (has_form p groups i)
  emb = part_embeds p groups split i

  counted : (k : ℕ) → k < machine_count (part_of p groups i) → k < length (passing (in_part p groups i) (machine_count p))
  counted k l = subst (λ (n : ℕ). k < n) emb.machines l

  counted_node : (m : ℕ) → m < node_count (part_of p groups i) → m < length (passing (in_group groups i) (node_count p))
  counted_node m l = subst (λ (n : ℕ). m < n) emb.nodes l

  -- what holds of all nodes and machines of the whole holds of those of the part
  each_node : (P : Node → Type 0) → All P p.nodes → All P (part_of p groups i).nodes
  each_node P all m d l =
      let below = node_in p (part_of p groups i) (in_part p groups i) (in_group groups i) (has_form p groups i) emb m l in
      let x = the_item p.nodes (node_at p (in_group groups i) m) below in
      let here : slice_index_or (part_of p groups i).nodes m d ≡ x.0 = get_or_from_slice_get (part_of p groups i).nodes m x.0 d (node_there p groups i split.sound split.are_groups (covered p groups split) m (counted_node m l) ∙ x.1) in
      subst P (sym here) (subst P (get_or_from_slice_get p.nodes (node_at p (in_group groups i) m) x.0 x.0 x.1) (all (node_at p (in_group groups i) m) x.0 below))

  each_machine : (P Q : Machine → Type 0) → ((x : Machine) → P x → Q (cut_host (in_group groups i) x)) → All P p.machines → All Q (part_of p groups i).machines
  each_machine P Q turn all k d l =
      let below = vm_in p (part_of p groups i) (in_part p groups i) (in_group groups i) (has_form p groups i) emb k l in
      let x = the_item p.machines (vm_at p (in_part p groups i) k) below in
      let here : slice_index_or (part_of p groups i).machines k d ≡ cut_host (in_group groups i) x.0 =
      get_or_from_slice_get (part_of p groups i).machines k (cut_host (in_group groups i) x.0) d (machine_there p groups i split.sound split.are_groups (covered p groups split) k (counted k l) ∙ ap (option_map (cut_host (in_group groups i))) x.1) in
      subst Q (sym here) (turn x.0 (subst P (get_or_from_slice_get p.machines (vm_at p (in_part p groups i) k) x.0 x.0 x.1) (all (vm_at p (in_part p groups i) k) x.0 below)))

  hosts_online : All (λ (x : Machine). host_is_online (part_of p groups i).nodes x.state ≡ true) (part_of p groups i).machines
  hosts_online k d l =
      let v_in = vm_in p (part_of p groups i) (in_part p groups i) (in_group groups i) (has_form p groups i) emb k l in
      let x = the_item p.machines (vm_at p (in_part p groups i) k) v_in in
      let here : slice_index_or (part_of p groups i).machines k d ≡ cut_host (in_group groups i) x.0 =
      get_or_from_slice_get (part_of p groups i).machines k (cut_host (in_group groups i) x.0) d (machine_there p groups i split.sound split.are_groups (covered p groups split) k (counted k l) ∙ ap (option_map (cut_host (in_group groups i))) x.1) in
      let online : host_is_online p.nodes x.0.state ≡ true = subst (λ (y : Machine). host_is_online p.nodes y.state ≡ true) (get_or_from_slice_get p.machines (vm_at p (in_part p groups i) k) x.0 x.0 x.1) (split.sound.inventory.hosts (vm_at p (in_part p groups i) k) x.0 v_in) in
      subst (λ (y : Machine). host_is_online (part_of p groups i).nodes y.state ≡ true) (sym here)
      (of x.0.state online (λ h e. host_ours p groups i split.sound split.are_groups (covered p groups split) (vm_at p (in_part p groups i) k) v_in (vm_mine p (part_of p groups i) (in_part p groups i) (in_group groups i) (has_form p groups i) emb k l) h (ap (λ (o : Option Machine). host_of (state_in o)) x.1 ∙ e)))
    where
      at : (h : NodeId) → is_online p.nodes h.0 ≡ true → IsTrue (in_group groups i h.0) → is_online (part_of p groups i).nodes (new_number (in_group groups i) h.0) ≡ true
      at h online ours =
          let l : h.0 < node_count p = split.are_groups.listed i h.0 ours in
          let lm : new_number (in_group groups i) h.0 < node_count (part_of p groups i) = subst (λ (n : ℕ). new_number (in_group groups i) h.0 < n) (sym emb.nodes) (new_in (in_group groups i) (node_count p) h.0 l ours) in
          sym (emb.online (new_number (in_group groups i) h.0) lm) ∙ ap (is_online p.nodes) (old_new (in_group groups i) (node_count p) h.0 l ours) ∙ online

      of : (s : State) → host_is_online p.nodes s ≡ true → ((h : NodeId) → host_of s ≡ Some h → IsTrue (in_group groups i h.0)) → host_is_online (part_of p groups i).nodes (renumbered_state (new_number (in_group groups i)) s) ≡ true
      of Init online ours = refl
      of Ready online ours = refl
      of (Running h) online ours = at h online (ours h refl)
      of (Sleeping h) online ours = at h online (ours h refl)
      of Gone online ours = refl

  -- ---- names

  -- the place in the whole of the name at a place of the part
  abbrev name_place : ℕ → ℕ
  name_place k = if nat_lt k (machine_count (part_of p groups i)) then vm_at p (in_part p groups i) k else machine_count p + node_at p (in_group groups i) (k - machine_count (part_of p groups i))

  names_count : (q : Instance) → length (names_of (inventory_of q)) ≡ machine_count q + node_count q
  names_count q = length-append (names_of_machines q.machines) (names_of_nodes q.nodes) ∙ ap₂ (λ (a b : ℕ). a + b) (length-map q.machines (λ (x : Machine). x.name)) (length-map q.nodes (λ (x : Node). x.name))

  machine_name : (q : Instance) (k : ℕ) (x : Machine) → slice_get q.machines k ≡ Some x → slice_index_or (names_of (inventory_of q)) k [] ≡ x.name
  machine_name q k x at =
      let l : k < machine_count q = slice_get_within q.machines k x at in
      get_or_append_left (names_of_machines q.machines) (names_of_nodes q.nodes) [] k (omega (arith, l, length-map q.machines (λ (x : Machine). x.name)))
      ∙ get_or_from_slice_get (names_of_machines q.machines) k x.name [] (slice_get-map (λ (x : Machine). x.name) q.machines k ∙ ap (option_map (λ (x : Machine). x.name)) at)

  node_name : (q : Instance) (k m : ℕ) (x : Node) → slice_get q.nodes m ≡ Some x → k ≡ machine_count q + m → slice_index_or (names_of (inventory_of q)) k [] ≡ x.name
  node_name q k m x at place =
      let rest : k - machine_count q ≡ m = omega (arith, place) in
      get_or-append_right (names_of_machines q.machines) (names_of_nodes q.nodes) (machine_count q) k [] (length-map q.machines (λ (x : Machine). x.name)) (omega (arith, place))
      ∙ ap (λ (j : ℕ). slice_index_or (names_of_nodes q.nodes) j []) rest
      ∙ get_or_from_slice_get (names_of_nodes q.nodes) m x.name [] (slice_get-map (λ (x : Node). x.name) q.nodes m ∙ ap (option_map (λ (x : Node). x.name)) at)

  name_at : (k : ℕ) → k < length (names_of (inventory_of (part_of p groups i))) → (name_place k < length (names_of (inventory_of p))) × (slice_index_or (names_of (inventory_of (part_of p groups i))) k [] ≡ slice_index_or (names_of (inventory_of p)) (name_place k) [])
  name_at k l =
      elim (cases_Bool (nat_lt k (machine_count (part_of p groups i)))) [
        | inl low ↦
            let lk : k < machine_count (part_of p groups i) = ltb-true k (machine_count (part_of p groups i)) low in
            let below = vm_in p (part_of p groups i) (in_part p groups i) (in_group groups i) (has_form p groups i) emb k lk in
            let x = the_item p.machines (vm_at p (in_part p groups i) k) below in
            let same : name_place k ≡ vm_at p (in_part p groups i) k = rw low refl in (
              omega (arith, same, below, names_count p),
              machine_name (part_of p groups i) k (cut_host (in_group groups i) x.0) (machine_there p groups i split.sound split.are_groups (covered p groups split) k (counted k lk) ∙ ap (option_map (cut_host (in_group groups i))) x.1)
                  ∙ sym (ap (λ (j : ℕ). slice_index_or (names_of (inventory_of p)) j []) same ∙ machine_name p (vm_at p (in_part p groups i) k) x.0 x.1),
            )
        | inr past ↦
            let m : ℕ = k - machine_count (part_of p groups i) in
            let high : machine_count (part_of p groups i) ≤ k = not_low k (machine_count (part_of p groups i)) past in
            let lm : k - machine_count (part_of p groups i) < node_count (part_of p groups i) = omega (arith, l, high, names_count (part_of p groups i)) in
            let below = node_in p (part_of p groups i) (in_part p groups i) (in_group groups i) (has_form p groups i) emb (k - machine_count (part_of p groups i)) lm in
            let x = the_item p.nodes (node_at p (in_group groups i) (k - machine_count (part_of p groups i))) below in
            let same : name_place k ≡ machine_count p + node_at p (in_group groups i) (k - machine_count (part_of p groups i)) = rw past refl in (
              omega (arith, same, below, names_count p),
              node_name (part_of p groups i) k (k - machine_count (part_of p groups i)) x.0 (node_there p groups i split.sound split.are_groups (covered p groups split) (k - machine_count (part_of p groups i)) (counted_node (k - machine_count (part_of p groups i)) lm) ∙ x.1) (omega (arith, high))
                  ∙ sym (node_name p (name_place k) (node_at p (in_group groups i) (k - machine_count (part_of p groups i))) x.0 x.1 same),
            )
      ]
    where
      not_low : (a b : ℕ) → nat_lt a b ≡ false → b ≤ a
      not_low a b e = elim (cases_lt a b) [ inl low ↦ absurd (false≢true (sym e ∙ lt-ltb a b low)) | inr high ↦ high ]

  -- old numbers grow with the new ones
  names_climb : (a b : ℕ) → a < b → b < length (names_of (inventory_of (part_of p groups i))) → name_place a < name_place b
  names_climb a b less l =
      let long : b < machine_count (part_of p groups i) + node_count (part_of p groups i) = omega (arith, l, names_count (part_of p groups i)) in
      elim (cases_Bool (nat_lt b (machine_count (part_of p groups i)))) [
        | inl low ↦
            let lb : b < machine_count (part_of p groups i) = ltb-true b (machine_count (part_of p groups i)) low in
            let la : nat_lt a (machine_count (part_of p groups i)) ≡ true = lt-ltb _ _ (omega (arith, less, lb)) in
            rw (low, la) (old_grows (in_part p groups i) (machine_count p) a b less (counted b lb))
        | inr past ↦
            let high : machine_count (part_of p groups i) ≤ b = not_low b (machine_count (part_of p groups i)) past in
            let lm : b - machine_count (part_of p groups i) < node_count (part_of p groups i) = omega (arith, long, high) in
            elim (cases_Bool (nat_lt a (machine_count (part_of p groups i)))) [
              | inl low ↦
                  let la : a < machine_count (part_of p groups i) = ltb-true a (machine_count (part_of p groups i)) low in
                  let below = vm_in p (part_of p groups i) (in_part p groups i) (in_group groups i) (has_form p groups i) emb a la in
                  rw (past, low) (omega (arith, below))
              | inr both ↦
                  let high_a : machine_count (part_of p groups i) ≤ a = not_low a (machine_count (part_of p groups i)) both in
                  let grows = old_grows (in_group groups i) (node_count p) (a - machine_count (part_of p groups i)) (b - machine_count (part_of p groups i)) (omega (arith, less, high_a)) (counted_node (b - machine_count (part_of p groups i)) lm) in
                  rw (past, both) (omega (arith, grows))
            ]
      ]
    where
      not_low : (a b : ℕ) → nat_lt a b ≡ false → b ≤ a
      not_low a b e = elim (cases_lt a b) [ inl low ↦ absurd (false≢true (sym e ∙ lt-ltb a b low)) | inr high ↦ high ]

  names_apart : are_distinct (names_of (inventory_of (part_of p groups i))) ≡ true
  names_apart = distinct_part (names_of (inventory_of (part_of p groups i))) (names_of (inventory_of p)) name_place names_climb name_at split.sound.inventory.apart

  -- ---- constraints

  each_rule : All (λ c. is_rule (inventory_of (part_of p groups i)) c ≡ true) (part_of p groups i).constraints
  each_rule d y l =
      let at = the_item (part_of p groups i).constraints d l in
      let from = emb.only d at.0 at.1 in
      let lp : from.place < length p.constraints = slice_get_within p.constraints from.place from.x from.at in
      let rule : is_rule (inventory_of p) from.x ≡ true = subst (λ (c : Constraint). is_rule (inventory_of p) c ≡ true) (get_or_from_slice_get p.constraints from.place from.x from.x from.at) (split.sound.rules from.place from.x lp) in
      let both : BothMine (in_part p groups i) from.x = mine_of from.place from.x from.at from.kept in
      let cut : is_rule (inventory_of (part_of p groups i)) (cut_constraint (in_part p groups i) (in_group groups i) (node_count p) from.x) ≡ true =
      cut_rule (in_part p groups i) (in_group groups i) (inventory_of p) (inventory_of (part_of p groups i)) emb.few emb.machines emb.nodes emb.resources from.x both rule in
      subst (λ (c : Constraint). is_rule (inventory_of (part_of p groups i)) c ≡ true) (from.cut ∙ sym (get_or_from_slice_get (part_of p groups i).constraints d at.0 y at.1)) cut
    where
      mine_of : (c : ℕ) (x : Constraint) → slice_get p.constraints c ≡ Some x → has_form p groups i (form_of x) ≡ true → BothMine (in_part p groups i) x
      mine_of c x at has = λ joint v member.
          let here : home p groups (form_of x) ≡ i = at_home p groups i (form_of x) joint has in
          subst (λ (j : ℕ). IsTrue (in_part p groups j v)) here ((inside_home p groups split c x at joint).machines v (joint_member x joint v member))

  few_rules : length (part_of p groups i).constraints ≤ length p.constraints
  unfolding part_of
  few_rules = omega (arith, length-map (filter (λ c. has_form p groups i (form_of c)) p.constraints) (cut_constraint (in_part p groups i) (in_group groups i) (node_count p)), filter-le (λ c. has_form p groups i (form_of c)) p.constraints)

  durations_same : (part_of p groups i).durations ≡ p.durations
  unfolding part_of
  durations_same = refl

  part_sound : IsInstance (part_of p groups i)
  part_sound = record {
    inventory = record {
      few_resources = subst (λ (l : List (List ℕ)). length l ≤ max_resources) (sym emb.resources) split.sound.inventory.few_resources;
      few_nodes = omega (arith, emb.nodes, length-passing (in_group groups i) (node_count p), new-le (in_group groups i) (node_count p), split.sound.inventory.few_nodes);
      few_machines = omega (arith, emb.machines, length-passing (in_part p groups i) (machine_count p), new-le (in_part p groups i) (machine_count p), split.sound.inventory.few_machines);
      each_kind = ap length durations_same ∙ split.sound.inventory.each_kind;
      named_resources = subst (All (λ name. is_name name ≡ true)) (sym emb.resources) split.sound.inventory.named_resources;
      named_nodes = each_node (λ (n : Node). is_name n.name ≡ true) split.sound.inventory.named_nodes;
      named_machines = each_machine (λ (m : Machine). is_name m.name ≡ true) (λ (m : Machine). is_name m.name ≡ true) (λ m h. h) split.sound.inventory.named_machines;
      apart_resources = ap are_distinct emb.resources ∙ split.sound.inventory.apart_resources;
      apart = names_apart;
      durations_fit = ap₂ (λ (l : List (List ℕ)) (d : List Duration). list_all (duration_fits (length l)) d) emb.resources durations_same ∙ split.sound.inventory.durations_fit;
      hosts = hosts_online;
      nodes_have_places = each_node (λ (n : Node). has_places n.capacity n.own ≡ true) split.sound.inventory.nodes_have_places;
      machines_have_places = each_machine (λ (m : Machine). has_places m.usage m.own ≡ true) (λ (m : Machine). has_places m.usage m.own ≡ true) (λ m h. h) split.sound.inventory.machines_have_places;
      nodes_fit = each_node (λ (n : Node). node_fits (length (part_of p groups i).resources) n ≡ true) (subst (λ (l : List (List ℕ)). All (λ (n : Node). node_fits (length l) n ≡ true) p.nodes) (sym emb.resources) split.sound.inventory.nodes_fit);
      machines_fit = each_machine (λ (m : Machine). machine_fits (length (part_of p groups i).resources) m ≡ true) (λ (m : Machine). machine_fits (length (part_of p groups i).resources) m ≡ true) (λ m h. h) (subst (λ (l : List (List ℕ)). All (λ (m : Machine). machine_fits (length l) m ≡ true) p.machines) (sym emb.resources) split.sound.inventory.machines_fit);
    };
    horizon = subst (λ (h : ℕ). h ≤ max_horizon) (sym emb.horizon) split.sound.horizon;
    few = omega (arith, few_rules, split.sound.few);
    rules = each_rule;
  }

pub part_is_sound : PartIsSound
part_is_sound p groups split i = part_sound p groups i split
