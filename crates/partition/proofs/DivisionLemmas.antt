-- What the tables say is what the definitions say.
use Rattle.std.specs.List.{filter_map}
use Rattle.base.proofs.Public.{◌≡◌, ◌≢◌, inl, inr, ℕ, ◌<◌, ◌≤◌, Bool, true, false, not, ◌||◌, ◌&&◌, ◌==◌, List, [], ◌∷◌, length, map, Option, Some, None, if◌then◌else◌, unwrap_or, is_none, refl, sym, ap, ap₂, ◌∙◌, all_pass, and_parts, arith, cases_Bool, cases_eq, cases_lt, each_passes, eq-eqb, false≢true, get_or-map-range_with_len, get_or_past, length-map-range_with_len, list_any, ne_eqb, range_with_len, slice_get}
use Rattle.cluster.specs.declared.ids.NodeId.{NodeId}
use Rattle.cluster.specs.declared.sets.NodeSet.{NodeSet}
use Rattle.cluster.specs.States.{host_of}
use Rattle.cluster.proofs.Public.{has_node-no_nodes}
use Rattle.catalogue.specs.Prelude.{has_node, Instance, is_member, no_nodes}
use Rattle.catalogue.specs.declared.constraint.Constraint.{Constraint}
use Rattle.slices.specs.Actions.{wanted_state}
use Rattle.slices.specs.Elements.{machine_count, node_count, state_of}
use Rattle.slices.specs.Forms.{Form, Apart, Allowed, Together, Ordered, InTurn, Bounded, Powered, Settled, Outside, Within, OnHost, form_of}
use Rattle.parts.specs.Groups.{AreGroups, group_by, has_some, in_group, is_inside, is_to_run, machine_group, node_group, only_group, tie, tied_group}
use Rattle.parts.specs.Splits.{first_uncovered}
use Rattle.parts.proofs.Public.{any_passes, finds, found, which_passes}
use Rattle.partition.specs.declared.reach.Reach.{Reach}
use Rattle.partition.specs.declared.reach.Reach.TheVariants.{Nowhere, One, Several}
use Rattle.partition.specs.Reach.{and_nodes, at, fits, only_of}
use Rattle.partition.specs.Division.{Covers, Divides, group_number, group_of_machine, tie_by, tied_by}
use Rattle.partition.specs.Division.{group_by as group_by_tables}
use Rattle.partition.proofs.ReachLemmas.{IsReach, only_is, node_in, reach_nodes, same_reach}
use Rattle.partition.proofs.TableLemmas.{same_any}

-- ---- groups of nodes

-- only the numbers of groups have nodes
pub in_groups : (groups : List NodeSet) (i n : ℕ) → in_group groups i n ≡ true → i < length groups
in_groups groups i n has =
    elim (cases_lt i (length groups)) [
      | inl low ↦ low
      | inr past ↦ absurd (false≢true (sym (has_node-no_nodes n) ∙ ap (λ (s : NodeSet). has_node s n) (sym (get_or_past groups i no_nodes past)) ∙ has))
    ]

module _ (p : Instance) (groups : List NodeSet) (nodes : List ℕ) (c : Covers p groups nodes) where
  long : length nodes ≡ node_count p
  long = ap length c.by_node ∙ length-map-range_with_len (group_number groups) 0 (node_count p)

  pub at_node : (n : ℕ) → n < node_count p → at nodes n ≡ group_number groups n
  at_node n l = ap (λ (t : List ℕ). at t n) c.by_node ∙ get_or-map-range_with_len (group_number groups) 0 (node_count p) n n 0 l (omega arith)

  pub at_past : (n : ℕ) → node_count p ≤ n → at nodes n ≡ 0
  at_past n past = get_or_past nodes n 0 (omega (arith, past, long))

  -- each node is in its group
  pub in_own : (n : ℕ) → n < node_count p → in_group groups (group_number groups n) n ≡ true
  in_own n l = by (node_group groups n) refl
    where
      by : (o : Option ℕ) → node_group groups n ≡ o → in_group groups (unwrap_or o 0) n ≡ true
      by (Some j) e = (found (λ i. in_group groups i n) 0 (length groups) j e).passes
      by None e =
          let w = finds (λ m. is_none (node_group groups m)) 0 (node_count p) n (record { passes = ap is_none e; low = omega arith; high = omega (arith, l) }) in
          let clash : Some w.0 ≡ None = sym w.1 ∙ c.uncovered in
          absurd (cc clash)

  pub number_in : (n : ℕ) → n < node_count p → group_number groups n < length groups
  number_in n l = in_groups groups (group_number groups n) n (in_own n l)

  -- and in no other
  pub in_as_number : (n j : ℕ) → n < node_count p → (at nodes n == j) ≡ in_group groups j n
  in_as_number n j l =
      elim (cases_eq (group_number groups n) j) [
        | inl same ↦ eq-eqb (at nodes n) j (at_node n l ∙ same) ∙ sym (ap (λ (i : ℕ). in_group groups i n) (sym same) ∙ in_own n l)
        | inr other ↦ ne_eqb (at nodes n) j (λ e. other (sym (at_node n l) ∙ e)) ∙ sym (elim (cases_Bool (in_group groups j n)) [
          | inl has ↦ absurd (other (c.are_groups.apart (group_number groups n) j n (in_own n l) has))
          | inr not_in ↦ not_in
        ])
      ]

  -- ---- sets of nodes

  pub node_in_as : (set : NodeSet) (j : ℕ) → node_in nodes set j ≡ has_some p groups j set
  node_in_as set j =
      ap (λ (m : ℕ). list_any (λ n. has_node set n && (at nodes n == j)) (range_with_len 0 m)) long ∙
      same_any _ _ 0 (node_count p) (λ n low high. ap (λ (b : Bool). has_node set n && b) (in_as_number n j (omega (arith, high))))

  pub reach_of_set : (set : NodeSet) → IsReach (λ j. has_some p groups j set) (and_nodes nodes Nowhere set)
  reach_of_set set = same_reach _ _ (node_in_as set) (and_nodes nodes Nowhere set) (reach_nodes nodes set (λ j. false) Nowhere (λ j. refl))

  -- a node of the set in the group
  record Shared (set : NodeSet) (j : ℕ) : Type 0 where
    node : ℕ
    below : node < node_count p
    has : has_node set node ≡ true
    inside : in_group groups j node ≡ true

  shared : (set : NodeSet) (j : ℕ) → has_some p groups j set ≡ true → Shared set j
  shared set j some =
      let w = which_passes (λ n. has_node set n && in_group groups j n) 0 (node_count p) some in
      let sides = and_parts (has_node set w.0) (in_group groups j w.0) w.1.passes in
      record { node = w.0; below = omega (arith, w.1.high); has = sides.0; inside = sides.1 }

  some_of : (set : NodeSet) (j n : ℕ) → n < node_count p → has_node set n ≡ true → in_group groups j n ≡ true → has_some p groups j set ≡ true
  some_of set j n l has inside =
      any_passes (λ m. has_node set m && in_group groups j m) 0 (node_count p) n (record { passes = ap₂ ◌&&◌ has inside; low = omega arith; high = omega (arith, l) })

  pub some_in : (set : NodeSet) (j : ℕ) → has_some p groups j set ≡ true → j < length groups
  some_in set j some = let s = shared set j some in in_groups groups j s.node s.inside

  -- where all are of one group, no other group has one
  inside_one : (set : NodeSet) (i j : ℕ) → is_inside p groups i set ≡ true → has_some p groups j set ≡ true → j ≡ i
  inside_one set i j inside some =
      let s = shared set j some in
      let passes = each_passes (λ n. not (has_node set n) || in_group groups i n) 0 (node_count p) s.node inside (omega arith) (omega (arith, s.below)) in
      c.are_groups.apart j i s.node s.inside (ap (λ (b : Bool). not b || in_group groups i s.node) (sym s.has) ∙ passes)

  all_inside : (set : NodeSet) (i : ℕ) → ((j : ℕ) → has_some p groups j set ≡ true → j ≡ i) → is_inside p groups i set ≡ true
  all_inside set i only =
      all_pass (λ n. not (has_node set n) || in_group groups i n) 0 (node_count p) (λ n low high. by n (omega (arith, high)) (has_node set n) refl)
    where
      by : (n : ℕ) → n < node_count p → (b : Bool) → has_node set n ≡ b → (not b || in_group groups i n) ≡ true
      by n l false has = refl
      by n l true has =
          let same : group_number groups n ≡ i = only (group_number groups n) (some_of set (group_number groups n) n l has (in_own n l)) in
          ap (λ (k : ℕ). in_group groups k n) (sym same) ∙ in_own n l

  pub inside_as : (set : NodeSet) (i : ℕ) → is_inside p groups i set ≡ fits (and_nodes nodes Nowhere set) i
  inside_as set i = by (and_nodes nodes Nowhere set) (reach_of_set set)
    where
      not_inside : (j : ℕ) → has_some p groups j set ≡ true → j ≢ i → is_inside p groups i set ≡ false
      not_inside j some other =
          elim (cases_Bool (is_inside p groups i set)) [ inl inside ↦ absurd (other (inside_one set i j inside some)) | inr outside ↦ outside ]

      by : (r : Reach) → IsReach (λ j. has_some p groups j set) r → is_inside p groups i set ≡ fits r i
      by Nowhere none = all_inside set i (λ j some. absurd (false≢true (sym (none j) ∙ some)))
      by (One h) one = elim (cases_eq h i) [
        | inl same ↦ all_inside set i (λ j some. one.only j some ∙ same) ∙ sym (eq-eqb h i same)
        | inr other ↦ not_inside h one.there other ∙ sym (ne_eqb h i other)
      ]
      by (Several h) several = elim (cases_eq h i) [
        | inl same ↦ not_inside several.other several.passes (λ e. several.differs (e ∙ sym same))
        | inr other ↦ not_inside h several.there other
      ]

  pub only_as : (set : NodeSet) → only_group p groups set ≡ only_of (and_nodes nodes Nowhere set)
  only_as set =
      only_is (λ i. has_some p groups i set) (length groups) (some_in set) (and_nodes nodes Nowhere set) (reach_of_set set) (λ i. is_inside p groups i set) (inside_as set)

  -- ---- the group of a machine

  pub tie_as : (v : ℕ) (f : Form) → tie_by nodes v f ≡ tie p groups v f
  tie_as v (Allowed vs (Within ns)) = ap (λ (o : Option ℕ). if is_member vs v then o else None) (sym (only_as ns))
  tie_as v (Allowed vs (Outside ns)) = refl
  tie_as v (Allowed vs OnHost) = refl
  tie_as v (Apart separation) = refl
  tie_as v (Together vs choices) = refl
  tie_as v (Ordered before after) = refl
  tie_as v (InTurn vs) = refl
  tie_as v (Bounded weight ns amount) = refl
  tie_as v (Powered ns amount) = refl
  tie_as v Settled = refl

  ties_as : (v : ℕ) (cs : List Constraint) → filter_map (λ x. tie_by nodes v (form_of x)) cs ≡ filter_map (λ x. tie p groups v (form_of x)) cs
  ties_as v [] = refl
  ties_as v (x ∷ cs) = by (tie p groups v (form_of x)) refl (ties_as v cs)
    where
      by : (o : Option ℕ) → tie p groups v (form_of x) ≡ o → filter_map (λ y. tie_by nodes v (form_of y)) cs ≡ filter_map (λ y. tie p groups v (form_of y)) cs →
          filter_map (λ y. tie_by nodes v (form_of y)) (x ∷ cs) ≡ filter_map (λ y. tie p groups v (form_of y)) (x ∷ cs)
      by None e rest = rw (tie_as v (form_of x), e) rest
      by (Some i) e rest = rw (tie_as v (form_of x), e) (ap (λ (l : List ℕ). i ∷ l) rest)

  pub group_as : (v : ℕ) → group_by_tables p nodes v ≡ machine_group p groups v
  unfolding machine_group
  group_as v = by_host (host_of (state_of p v))
    where
      tied_as : tied_by nodes p.constraints v ≡ tied_group p groups v
      tied_as = ap (λ (l : List ℕ). slice_get l 0) (ties_as v p.constraints)

      by_host : (o : Option NodeId) → group_of_machine p nodes v (tied_by nodes p.constraints v) o ≡ group_by p groups v o
      by_host None = ap (λ (o : Option ℕ). if is_to_run (wanted_state p v) then unwrap_or o 0 else 0) tied_as
      by_host (Some host) = elim (cases_lt host.0 (node_count p)) [ inl low ↦ at_node host.0 low | inr past ↦ at_past host.0 past ∙ sym (outside host.0 past) ]
        where
          outside : (n : ℕ) → node_count p ≤ n → group_number groups n ≡ 0
          outside n past = by (node_group groups n) refl
            where
              by : (o : Option ℕ) → node_group groups n ≡ o → unwrap_or o 0 ≡ 0
              by None e = refl
              by (Some j) e = absurd (omega (arith, past, c.are_groups.listed j n (found (λ i. in_group groups i n) 0 (length groups) j e).passes))

-- ---- all tables together

same_map : (f g : ℕ → ℕ) → ((k : ℕ) → f k ≡ g k) → (xs : List ℕ) → map f xs ≡ map g xs
same_map f g same [] = refl
same_map f g same (x ∷ xs) = ap₂ (λ (y : ℕ) (ys : List ℕ). y ∷ ys) (same x) (same_map f g same xs)

pub divides : (p : Instance) (groups : List NodeSet) (nodes machines : List ℕ) → AreGroups p groups → first_uncovered p groups ≡ None →
    nodes ≡ map (group_number groups) (range_with_len 0 (node_count p)) → machines ≡ map (group_by_tables p nodes) (range_with_len 0 (machine_count p)) → Divides p groups nodes machines
divides p groups nodes machines are_groups uncovered by_node by_machine =
    let covers : Covers p groups nodes = record { are_groups = are_groups; uncovered = uncovered; by_node = by_node } in
    record { covers = covers; by_machine = by_machine ∙ same_map _ _ (group_as p groups nodes covers) (range_with_len 0 (machine_count p)) }
