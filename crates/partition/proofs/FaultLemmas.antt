-- Which machines are free and which constraints span groups, by the tables.
use Rattle.std.specs.List.{filter_map, position_or_len}
use Rattle.base.proofs.Public.{◌≡◌, inl, inr, ℕ, ◌+◌, ◌<◌, Bool, true, false, not, ◌||◌, ◌&&◌, ◌==◌, List, [], ◌∷◌, length, Option, Some, None, if◌then◌else◌, unwrap_or, nat_lt, refl, sym, ap, ap₂, subst, ◌∙◌, All, All-head, All-tail, All-weaker, and_parts, arith, cases_Bool, cases_lt, false≢true, find, get_or-map-range_with_len, list_any, ltb-true, eqb-true, or-false, option_map, option_or, or_cases, position, range_with_len, slice_get}
use Rattle.cluster.specs.declared.ids.NodeId.{NodeId}
use Rattle.cluster.specs.declared.ids.VmId.{VmId}
use Rattle.cluster.specs.declared.sets.NodeSet.{NodeSet}
use Rattle.cluster.specs.States.{host_of}
use Rattle.catalogue.specs.Prelude.{are_below, Instance, inventory_of, is_member, is_rule, IsInstance}
use Rattle.slices.specs.Actions.{wanted_state}
use Rattle.slices.specs.Elements.{machine_count, node_count, state_of}
use Rattle.slices.specs.Forms.{Form, Apart, Allowed, Together, Ordered, InTurn, Bounded, Powered, Settled, Outside, Within, OnHost, AnyNode, AnyOf, form_of, members, separated}
use Rattle.slices.proofs.Public.{sound_form}
use Rattle.parts.specs.Groups.{has_some, is_inside, is_to_run, machine_group}
use Rattle.parts.specs.Splits.{fences, first_free, first_spanning, first_uncovered, home, is_free, is_joint, is_running, joint_sets, names, roots, spans, split_fault}
use Rattle.parts.specs.declared.fault.SplitFault.TheVariants.{Uncovered, Free, Spans}
use Rattle.partition.specs.declared.reach.Reach.{Reach}
use Rattle.partition.specs.declared.reach.Reach.TheVariants.{Nowhere, One, Several}
use Rattle.partition.specs.Reach.{and_machines, and_nodes, at, fits, form_reach, is_several, only_of}
use Rattle.partition.specs.Division.{Divides, group_of_machine, is_free_by, keeps_by, spans_by, tie_by, tied_by}
use Rattle.partition.proofs.DivisionLemmas.{at_node, at_past, group_as, inside_as, node_in_as, number_in, reach_of_set, some_in}
use Rattle.partition.proofs.ReachLemmas.{IsReach, machine_in, reach_machines, reach_sets, same_reach, spans_as}
use Rattle.partition.proofs.TableLemmas.{same_find}

-- ---- tests

and_turned : (a b : Bool) → (a && b) ≡ (b && a)
and_turned true true = refl
and_turned true false = refl
and_turned false true = refl
and_turned false false = refl

nothing : (b : Bool) → false ≡ (false || (b && false))
nothing true = refl
nothing false = refl

shuffled : (f b r a s : Bool) → ((f || (b && r)) || (a || (b && s))) ≡ ((f || a) || (b && (r || s)))
shuffled true b r a s = refl
shuffled false false r a s = refl
shuffled false true false a s = refl
shuffled false true true true s = refl
shuffled false true true false s = refl

any_of_two : {A : Type 0} (k f r : A → Bool) (b : Bool) → ((x : A) → k x ≡ (f x || (b && r x))) → (xs : List A) → list_any k xs ≡ (list_any f xs || (b && list_any r xs))
any_of_two k f r b is [] = nothing b
any_of_two k f r b is (x ∷ xs) = ap₂ ◌||◌ (is x) (any_of_two k f r b is xs) ∙ shuffled (f x) b (r x) (list_any f xs) (list_any r xs)

same_any_in : {A : Type 0} (a b : A → Bool) → ((x : A) → a x ≡ b x) → (xs : List A) → list_any a xs ≡ list_any b xs
same_any_in a b same [] = refl
same_any_in a b same (x ∷ xs) = ap₂ ◌||◌ (same x) (same_any_in a b same xs)

same_front : {A : Type 0} (a b : A → Bool) (xs : List A) → All (λ x. a x ≡ b x) xs → position_or_len a xs ≡ position_or_len b xs
same_front a b [] all = refl
same_front a b (x ∷ xs) all =
    ap₂ (λ (t : Bool) (n : ℕ). if not t then 1 + n else 0) (All-head (λ y. a y ≡ b y) x xs all) (same_front a b xs (All-tail (λ y. a y ≡ b y) x xs all))

same_position : {A : Type 0} (a b : A → Bool) (xs : List A) → All (λ x. a x ≡ b x) xs → position a xs ≡ position b xs
same_position a b xs all = ap (λ (k : ℕ). if nat_lt k (length xs) then Some k else None) (same_front a b xs all)

-- what a list gives first is below a bound, where all that is given is
given_below : {A : Type 0} (f : A → Option ℕ) (n : ℕ) → ((x : A) (j : ℕ) → f x ≡ Some j → j < n) → (xs : List A) (j : ℕ) → slice_get (filter_map f xs) 0 ≡ Some j → j < n
given_below f n below [] j e = absurd (cc e)
given_below f n below (x ∷ xs) j e = by (f x) refl (given_below f n below xs j)
  where
    by : (o : Option ℕ) → f x ≡ o → (slice_get (filter_map f xs) 0 ≡ Some j → j < n) → j < n
    by None none later = let rest : slice_get (filter_map f xs) 0 ≡ Some j = rw none at e in later rest
    by (Some i) some later = let same : Some i ≡ Some j = rw some at e in below x j (some ∙ same)

module _ (p : Instance) (groups : List NodeSet) (nodes machines : List ℕ) (d : Divides p groups nodes machines) where
  pub at_machine : (v : ℕ) → v < machine_count p → at machines v ≡ machine_group p groups v
  at_machine v l = ap (λ (t : List ℕ). at t v) d.by_machine ∙ get_or-map-range_with_len (machine_group p groups) 0 (machine_count p) v v 0 l (omega arith)

  -- ---- free machines

  keeps_as : (v : ℕ) → v < machine_count p → (f : Form) → keeps_by p nodes machines v f ≡ (fences p groups v (machine_group p groups v) f || (is_running (state_of p v) && roots v f))
  keeps_as v l (Allowed vs (Within ns)) =
      let inside : fits (and_nodes nodes Nowhere ns) (at machines v) ≡ is_inside p groups (machine_group p groups v) ns = ap (fits (and_nodes nodes Nowhere ns)) (at_machine v l) ∙ sym (inside_as p groups nodes d.covers ns (machine_group p groups v)) in
      ap (λ (b : Bool). is_member vs v && b) inside ∙ sym (or-false _) ∙ ap (λ (b : Bool). fences p groups v (machine_group p groups v) (Allowed vs (Within ns)) || b) (nothing (is_running (state_of p v)))
  keeps_as v l (Allowed vs (Outside ns)) = nothing (is_running (state_of p v))
  keeps_as v l (Allowed vs OnHost) = and_turned (is_member vs v) (is_running (state_of p v))
  keeps_as v l (Apart separation) = nothing (is_running (state_of p v))
  keeps_as v l (Together vs choices) = nothing (is_running (state_of p v))
  keeps_as v l (Ordered before after) = nothing (is_running (state_of p v))
  keeps_as v l (InTurn vs) = nothing (is_running (state_of p v))
  keeps_as v l (Bounded weight ns amount) = nothing (is_running (state_of p v))
  keeps_as v l (Powered ns amount) = nothing (is_running (state_of p v))
  keeps_as v l Settled = nothing (is_running (state_of p v))

  free_as : (v : ℕ) → v < machine_count p → is_free_by p nodes machines v ≡ is_free p groups v
  free_as v l =
      ap (λ (b : Bool). is_to_run (wanted_state p v) && not b)
      (any_of_two _ (λ c. fences p groups v (machine_group p groups v) (form_of c)) (λ c. roots v (form_of c)) (is_running (state_of p v)) (λ c. keeps_as v l (form_of c)) p.constraints)

  pub first_free_as : find (is_free_by p nodes machines) (range_with_len 0 (machine_count p)) ≡ find (is_free p groups) (range_with_len 0 (machine_count p))
  first_free_as = same_find _ _ 0 (machine_count p) (λ v low high. free_as v (omega (arith, high)))

  -- ---- the group of a machine is one of the groups

  only_below : (set : NodeSet) (j : ℕ) → only_of (and_nodes nodes Nowhere set) ≡ Some j → j < length groups
  only_below set j e = by (and_nodes nodes Nowhere set) (reach_of_set p groups nodes d.covers set) e
    where
      by : (r : Reach) → IsReach (λ i. has_some p groups i set) r → only_of r ≡ Some j → j < length groups
      by Nowhere none e = absurd (cc e)
      by (One h) one e = let same : h ≡ j = cc e in subst (λ (i : ℕ). i < length groups) same (some_in p groups nodes d.covers set h one.there)
      by (Several h) several e = absurd (cc e)

  tie_below : (v : ℕ) (f : Form) (j : ℕ) → tie_by nodes v f ≡ Some j → j < length groups
  tie_below v (Allowed vs (Within ns)) j e = elim (cases_Bool (is_member vs v)) [
    | inl member ↦ let one : only_of (and_nodes nodes Nowhere ns) ≡ Some j = rw member at e in only_below ns j one
    | inr other ↦ let none : None ≡ Some j = rw other at e in absurd (cc none)
  ]
  tie_below v (Allowed vs (Outside ns)) j e = absurd (cc e)
  tie_below v (Allowed vs OnHost) j e = absurd (cc e)
  tie_below v (Apart separation) j e = absurd (cc e)
  tie_below v (Together vs choices) j e = absurd (cc e)
  tie_below v (Ordered before after) j e = absurd (cc e)
  tie_below v (InTurn vs) j e = absurd (cc e)
  tie_below v (Bounded weight ns amount) j e = absurd (cc e)
  tie_below v (Powered ns amount) j e = absurd (cc e)
  tie_below v Settled j e = absurd (cc e)

  pub group_below : (v : ℕ) → machine_group p groups v < length groups
  group_below v = subst (λ (i : ℕ). i < length groups) (group_as p groups nodes d.covers v) (by_host (host_of (state_of p v)))
    where
      by_tie : (o : Option ℕ) → tied_by nodes p.constraints v ≡ o → unwrap_or o 0 < length groups
      by_tie None e = d.covers.are_groups.some
      by_tie (Some j) e = given_below (λ c. tie_by nodes v (form_of c)) (length groups) (λ c i. tie_below v (form_of c) i) p.constraints j e

      by_wish : (b : Bool) → (if b then unwrap_or (tied_by nodes p.constraints v) 0 else 0) < length groups
      by_wish true = by_tie (tied_by nodes p.constraints v) refl
      by_wish false = d.covers.are_groups.some

      by_host : (o : Option NodeId) → group_of_machine p nodes v (tied_by nodes p.constraints v) o < length groups
      by_host None = by_wish (is_to_run (wanted_state p v))
      by_host (Some host) = elim (cases_lt host.0 (node_count p)) [
        | inl low ↦ subst (λ (i : ℕ). i < length groups) (sym (at_node p groups nodes d.covers host.0 low)) (number_in p groups nodes d.covers host.0 low)
        | inr past ↦ subst (λ (i : ℕ). i < length groups) (sym (at_past p groups nodes d.covers host.0 past)) d.covers.are_groups.some
      ]

  -- ---- the groups that a joint form names

  members_as : (vs : List VmId) (j : ℕ) → are_below (machine_count p) vs ≡ true → machine_in machines vs j ≡ list_any (λ v. machine_group p groups v.0 == j) vs
  members_as [] j below = refl
  members_as (v ∷ vs) j below =
      let sides = and_parts (nat_lt v.0 (machine_count p)) (are_below (machine_count p) vs) below in
      ap₂ ◌||◌ (ap (λ (i : ℕ). i == j) (at_machine v.0 (ltb-true v.0 (machine_count p) sides.0))) (members_as vs j sides.1)

  reach_of_members : (vs : List VmId) → are_below (machine_count p) vs ≡ true → IsReach (λ j. list_any (λ v. machine_group p groups v.0 == j) vs) (and_machines machines Nowhere vs)
  reach_of_members vs below = same_reach _ _ (λ j. members_as vs j below) (and_machines machines Nowhere vs) (reach_machines machines vs (λ j. false) Nowhere (λ j. refl))

  -- a form that lists machines alone, or one set of nodes alone
  machines_alone : (vs : List VmId) → are_below (machine_count p) vs ≡ true → IsReach (λ j. list_any (λ v. machine_group p groups v.0 == j) vs || false) (and_machines machines Nowhere vs)
  machines_alone vs below =
      same_reach (λ j. list_any (λ v. machine_group p groups v.0 == j) vs) _ (λ j. sym (or-false (list_any (λ v. machine_group p groups v.0 == j) vs))) (and_machines machines Nowhere vs) (reach_of_members vs below)

  nodes_alone : (set : NodeSet) → IsReach (λ j. has_some p groups j set || false) (and_nodes nodes Nowhere set)
  nodes_alone set =
      same_reach (λ j. has_some p groups j set) _ (λ j. sym (or-false (has_some p groups j set))) (and_nodes nodes Nowhere set) (reach_of_set p groups nodes d.covers set)

  pub reach_of_form : (f : Form) → is_joint f ≡ true → are_below (machine_count p) (members f) ≡ true → IsReach (names p groups f) (form_reach machines nodes f)
  reach_of_form (Apart separation) joint below = machines_alone (separated separation) below
  reach_of_form (Allowed vs places) joint below = absurd (false≢true joint)
  reach_of_form (Together vs AnyNode) joint below = machines_alone vs below
  reach_of_form (Together vs (AnyOf sets)) joint below =
      same_reach _ _ (λ j. ap (λ (b : Bool). list_any (λ v. machine_group p groups v.0 == j) vs || b) (same_any_in _ _ (λ set. node_in_as p groups nodes d.covers set j) sets)) (form_reach machines nodes (Together vs (AnyOf sets)))
      (reach_sets nodes sets (λ j. list_any (λ v. machine_group p groups v.0 == j) vs) (and_machines machines Nowhere vs) (reach_of_members vs below))
  reach_of_form (Ordered before after) joint below = machines_alone (before ∷ after ∷ []) below
  reach_of_form (InTurn vs) joint below = machines_alone vs below
  reach_of_form (Bounded weight ns amount) joint below = nodes_alone ns
  reach_of_form (Powered ns amount) joint below = nodes_alone ns
  reach_of_form Settled joint below = absurd (false≢true joint)

  -- what is not joint names no group
  nowhere : (f : Form) → is_joint f ≡ false → is_several (form_reach machines nodes f) ≡ false
  nowhere (Apart separation) other = absurd (false≢true (sym other))
  nowhere (Allowed vs places) other = refl
  nowhere (Together vs choices) other = absurd (false≢true (sym other))
  nowhere (Ordered before after) other = absurd (false≢true (sym other))
  nowhere (InTurn vs) other = absurd (false≢true (sym other))
  nowhere (Bounded weight ns amount) other = absurd (false≢true (sym other))
  nowhere (Powered ns amount) other = absurd (false≢true (sym other))
  nowhere Settled other = refl

  member_group : (vs : List VmId) (j : ℕ) → list_any (λ v. machine_group p groups v.0 == j) vs ≡ true → j < length groups
  member_group [] j e = absurd (false≢true e)
  member_group (v ∷ vs) j e = elim (or_cases (machine_group p groups v.0 == j) _ e) [
    | inl here ↦ subst (λ (i : ℕ). i < length groups) (eqb-true _ j here) (group_below v.0)
    | inr later ↦ member_group vs j later
  ]

  set_group : (sets : List NodeSet) (j : ℕ) → list_any (has_some p groups j) sets ≡ true → j < length groups
  set_group [] j e = absurd (false≢true e)
  set_group (set ∷ sets) j e = elim (or_cases (has_some p groups j set) _ e) [
    | inl here ↦ some_in p groups nodes d.covers set j here
    | inr later ↦ set_group sets j later
  ]

  pub named_below : (f : Form) (j : ℕ) → names p groups f j ≡ true → j < length groups
  named_below f j e = elim (or_cases (list_any (λ v. machine_group p groups v.0 == j) (members f)) _ e) [ inl member ↦ member_group (members f) j member | inr set ↦ set_group (joint_sets f) j set ]

  spans_is : (f : Form) → are_below (machine_count p) (members f) ≡ true → is_several (form_reach machines nodes f) ≡ spans p groups f
  spans_is f below =
      let others : Bool = list_any (λ i. names p groups f i && not (i == home p groups f)) (range_with_len 0 (length groups)) in
      elim (cases_Bool (is_joint f)) [
        | inl joint ↦
            let is = spans_as (names p groups f) (length groups) (named_below f) (form_reach machines nodes f) (reach_of_form f joint below) in
            sym is ∙ ap (λ (b : Bool). b && others) (sym joint)
        | inr other ↦ nowhere f other ∙ ap (λ (b : Bool). b && others) (sym other)
      ]

  pub first_spanning_as : IsInstance p → position (spans_by nodes machines) p.constraints ≡ first_spanning p groups
  first_spanning_as sound =
      same_position _ _ p.constraints (All-weaker (λ c. is_rule (inventory_of p) c ≡ true) (λ c. spans_by nodes machines c ≡ spans p groups (form_of c)) (λ c rule. spans_is (form_of c) (sound_form p c rule).listed) p.constraints sound.rules)

  -- ---- the first fault of groups that cover all nodes

  pub fault_is : IsInstance p → (free spanning : Option ℕ) → free ≡ (if nat_lt 1 (length groups) then find (is_free_by p nodes machines) (range_with_len 0 (machine_count p)) else None) →
      spanning ≡ position (spans_by nodes machines) p.constraints → option_or (option_map (λ v. Free (record { 0 = v })) free) (option_map Spans spanning) ≡ split_fault p groups
  unfolding split_fault
  fault_is sound free spanning is_free_machine is_spanning =
      let free_same : free ≡ first_free p groups = is_free_machine ∙ ap (λ (o : Option ℕ). if nat_lt 1 (length groups) then o else None) first_free_as in
      let spanning_same : spanning ≡ first_spanning p groups = is_spanning ∙ first_spanning_as sound in
      ap₂ (λ (a b : Option ℕ). option_or (option_map (λ v. Free (record { 0 = v })) a) (option_map Spans b)) free_same spanning_same ∙
      ap (λ (o : Option ℕ). option_or (option_map (λ n. Uncovered (record { 0 = n })) o) (option_or (option_map (λ v. Free (record { 0 = v })) (first_free p groups)) (option_map Spans (first_spanning p groups)))) (sym d.covers.uncovered)

-- ---- what comes first

pub uncovered_first : (p : Instance) (groups : List NodeSet) (n : ℕ) → Some n ≡ first_uncovered p groups → Some (Uncovered (record { 0 = n })) ≡ split_fault p groups
unfolding split_fault
uncovered_first p groups n e =
    ap (λ (o : Option ℕ). option_or (option_map (λ m. Uncovered (record { 0 = m })) o) (option_or (option_map (λ v. Free (record { 0 = v })) (first_free p groups)) (option_map Spans (first_spanning p groups)))) e

-- where there is no fault, each node is in a group
pub none_uncovered : (p : Instance) (groups : List NodeSet) → split_fault p groups ≡ None → first_uncovered p groups ≡ None
unfolding split_fault
none_uncovered p groups faultless = by (first_uncovered p groups) refl faultless
  where
    by : (o : Option ℕ) → first_uncovered p groups ≡ o → option_or (option_map (λ m. Uncovered (record { 0 = m })) o) (option_or (option_map (λ v. Free (record { 0 = v })) (first_free p groups)) (option_map Spans (first_spanning p groups))) ≡ None → first_uncovered p groups ≡ None
    by None e none = e
    by (Some n) e none = absurd (cc none)
