-- Printed constraints are read again.
use Rattle.std.proofs.Common.{codes}
use Rattle.base.proofs.Public.{◌≡◌, ℕ, ◌<◌, ◌==◌, ◌&&◌, ◌||◌, Bool, true, false, not, List, [], ◌∷◌, length, nat_le, nat_lt, Ok, refl, ◌∙◌, arith, common_steps, and_parts, ltb-true, leb-true, not-true, list_all, same_either_way}
use Rattle.instance_make.specs.Prelude.{all_of, among_from, among_object, are_machines, are_named_machines, are_named_nodes, are_nodes, both_fields, both_object, constraint_by, constraint_data, constraint_from, constraint_word, differ, field_of, flag_of, flagged_machines_fields, flagged_machines_object, Inventory, is_fitting, is_member, is_named_resource, is_resource, is_rule, IsInventory, key_path, machines_fields, machines_in, machines_object, max_amount, max_groups, max_parts, max_scale, node_count_fields, node_count_object, nodes_fields, nodes_object, NodeSet, number_field_of, number_of, object_by, only_of, optional, overbook_from, overbook_object, precedence_from, precedence_object, preserve_from, preserve_object, resource_capacity_from, resource_capacity_object, split_from, split_object, VmId}
use Rattle.catalogue.specs.declared.constraint.Constraint.{Constraint}
use Rattle.catalogue.specs.declared.constraint.Constraint.TheVariants.{Spread, Ban, Fence, Gather, Lonely, Among, Split, Root, Precedence, Serialize, Preserve, ResourceCapacity, RunningCapacity, MaxOnline, Overbook, Online, Offline, Running, Sleeping, Ready, Killed}
use Rattle.serde_json.specs.Data.{string}
use Rattle.instance_json.proofs.Public.{kind_of_constraint, word_field-constraint, listed_machine-name}
use Rattle.instance_make.proofs.AmountsAgain.{from_zero, resource_again}
use Rattle.instance_make.proofs.ListsAgain.{vms_again, parts_again, node_set_again, groups_again}

small : (a most : ℕ) → nat_le a most ≡ true → (nat_le 0 a && nat_le a most) ≡ true
small a most fits = from_zero a most (leb-true a most fits)

module _ (k : Inventory) (sound : IsInventory k) (word : List ℕ) (path : List ℕ) where
  of_machines : (vs : List VmId) → are_machines k vs ≡ true → differ vs ≡ true → machines_fields k (machines_object k word vs) path ≡ Ok vs
  unfolding machines_fields machines_object field_of only_of
  of_machines vs listed apart = rw (vms_again k sound [] vs (key_path path (codes "machines")) listed apart) refl

  of_flagged : (vs : List VmId) (b : Bool) → are_machines k vs ≡ true → differ vs ≡ true → flagged_machines_fields k (flagged_machines_object k word vs b) path ≡ Ok (vs, b)
  unfolding flagged_machines_fields flagged_machines_object field_of optional flag_of only_of
  of_flagged vs b listed apart = rw (vms_again k sound [] vs (key_path path (codes "machines")) listed apart) refl

  of_both : (vs : List VmId) (s : NodeSet) (b : Bool) → are_machines k vs ≡ true → differ vs ≡ true → are_nodes k s ≡ true → both_fields k (both_object k word vs s b) path ≡ Ok (vs, s, b)
  unfolding both_fields both_object field_of optional flag_of only_of
  of_both vs s b listed apart nodes =
      rw (vms_again k sound [] vs (key_path path (codes "machines")) listed apart, node_set_again k sound s (key_path path (codes "nodes")) nodes) refl

  of_among : (vs : List VmId) (groups : List NodeSet) (b : Bool) → are_machines k vs ≡ true → differ vs ≡ true → list_all (are_nodes k) groups ≡ true
      → nat_lt 0 (length groups) ≡ true → nat_le (length groups) max_groups ≡ true → among_from k (among_object k word vs groups b) path ≡ Ok (Among vs groups b)
  unfolding among_from among_object field_of optional flag_of only_of
  of_among vs groups b listed apart nodes some few =
      rw (vms_again k sound [] vs (key_path path (codes "machines")) listed apart, groups_again k sound groups (key_path path (codes "groups")) nodes some few) refl

  of_split : (parts : List (List VmId)) (b : Bool) → are_machines k (all_of parts) ≡ true → differ (all_of parts) ≡ true → nat_le (length parts) max_parts ≡ true
      → split_from k (split_object k word parts b) path ≡ Ok (Split parts b)
  unfolding split_from split_object field_of optional flag_of only_of
  of_split parts b listed apart few = rw (parts_again k sound parts (key_path path (codes "parts")) listed apart few) refl

  of_precedence : (before after : VmId) → before.0 < length k.machines → after.0 < length k.machines → (before.0 == after.0) ≡ false → precedence_from k (precedence_object k word before after) path ≡ Ok (Precedence before after)
  unfolding precedence_from precedence_object field_of only_of
  of_precedence before after first second apart =
      rw (listed_machine-name k before (key_path path (codes "before")) sound first, listed_machine-name k after (key_path path (codes "after")) sound second, apart) refl

  of_preserve : (vs : List VmId) (r amount : ℕ) → are_machines k vs ≡ true → differ vs ≡ true → r < length k.resources → nat_le amount max_amount ≡ true → preserve_from k (preserve_object k word vs r amount) path ≡ Ok (Preserve vs r amount)
  unfolding preserve_from preserve_object field_of number_field_of number_of only_of
  of_preserve vs r amount listed apart resource fits =
      rw (vms_again k sound [] vs (key_path path (codes "machines")) listed apart, resource_again k sound r (key_path path (codes "resource")) resource, small amount max_amount fits) refl

  of_resource_capacity : (s : NodeSet) (r amount : ℕ) (b : Bool) → are_nodes k s ≡ true → r < length k.resources → nat_le amount max_amount ≡ true
      → resource_capacity_from k (resource_capacity_object k word s r amount b) path ≡ Ok (ResourceCapacity s r amount b)
  unfolding resource_capacity_from resource_capacity_object field_of number_field_of number_of optional flag_of only_of
  of_resource_capacity s r amount b nodes resource fits =
      rw (node_set_again k sound s (key_path path (codes "nodes")) nodes, resource_again k sound r (key_path path (codes "resource")) resource, small amount max_amount fits) refl

  of_node_count : (s : NodeSet) (amount : ℕ) (b : Bool) → are_nodes k s ≡ true → nat_le amount max_amount ≡ true → node_count_fields k (node_count_object k word s amount b) path ≡ Ok (s, amount, b)
  unfolding node_count_fields node_count_object field_of number_field_of number_of optional flag_of only_of
  of_node_count s amount b nodes fits = rw (node_set_again k sound s (key_path path (codes "nodes")) nodes, small amount max_amount fits) refl

  of_overbook : (s : NodeSet) (r num den : ℕ) → are_nodes k s ≡ true → r < length k.resources → nat_le num max_scale ≡ true → (nat_le 1 den && nat_le den max_scale) ≡ true
      → overbook_from k (overbook_object k word s r num den) path ≡ Ok (Overbook s r num den)
  unfolding overbook_from overbook_object field_of number_field_of number_of only_of
  of_overbook s r num den nodes resource top bottom =
      rw (node_set_again k sound s (key_path path (codes "nodes")) nodes, resource_again k sound r (key_path path (codes "resource")) resource, small num max_scale top, bottom) refl

  of_nodes : (s : NodeSet) → are_nodes k s ≡ true → nodes_fields k (nodes_object k word s) path ≡ Ok s
  unfolding nodes_fields nodes_object field_of only_of
  of_nodes s nodes = rw (node_set_again k sound s (key_path path (codes "nodes")) nodes) refl

-- what is true of a constraint that is a rule
record Parts (k : Inventory) (c : Constraint) : Type 0 where
  machines : are_named_machines k c ≡ true
  nodes : are_named_nodes k c ≡ true
  resource : is_named_resource k c ≡ true
  apart : differ (machines_in c) ≡ true
  fits : is_fitting c ≡ true

parts_of : (k : Inventory) (c : Constraint) → is_rule k c ≡ true → Parts k c
parts_of k c rule =
    let four = and_parts (are_named_machines k c && are_named_nodes k c && is_named_resource k c && differ (machines_in c)) (is_fitting c) rule in
    let three = and_parts (are_named_machines k c && are_named_nodes k c && is_named_resource k c) (differ (machines_in c)) four.0 in
    let two = and_parts (are_named_machines k c && are_named_nodes k c) (is_named_resource k c) three.0 in
    let one = and_parts (are_named_machines k c) (are_named_nodes k c) two.0 in
    record { machines = one.0; nodes = one.1; resource = two.1; apart = three.1; fits = four.1 }

module _ (k : Inventory) (sound : IsInventory k) (word : List ℕ) (path : List ℕ) where
  listed_resource : (r : ℕ) → is_resource k r ≡ true → r < length k.resources
  listed_resource r h = ltb-true r (length k.resources) h

  -- what the fields of each kind give
  fields_again : (c : Constraint) → Parts k c → constraint_by k (kind_of_constraint c) (object_by k word c) path ≡ Ok c
  unfolding constraint_by
  fields_again (Spread vs b) h = rw (of_flagged k sound word path vs b h.machines h.apart) refl
  fields_again (Ban vs s b) h = rw (of_both k sound word path vs s b h.machines h.apart h.nodes) refl
  fields_again (Fence vs s b) h = rw (of_both k sound word path vs s b h.machines h.apart h.nodes) refl
  fields_again (Gather vs b) h = rw (of_flagged k sound word path vs b h.machines h.apart) refl
  fields_again (Lonely vs b) h = rw (of_flagged k sound word path vs b h.machines h.apart) refl
  fields_again (Among vs groups b) h =
      let counts = and_parts (nat_lt 0 (length groups)) (nat_le (length groups) max_groups) h.fits in
      of_among k sound word path vs groups b h.machines h.apart h.nodes counts.0 counts.1
  fields_again (Split parts b) h = of_split k sound word path parts b h.machines h.apart h.fits
  fields_again (Root vs) h = rw (of_machines k sound word path vs h.machines h.apart) refl
  fields_again (Precedence before after) h =
      let listed = and_parts (nat_lt before.0 (length k.machines)) _ h.machines in
      let later = (and_parts (nat_lt after.0 (length k.machines)) true listed.1).0 in
      let none : is_member (after ∷ []) before.0 ≡ false = not-true _ (and_parts (not (is_member (after ∷ []) before.0)) _ h.apart).0 in
      let apart : (before.0 == after.0) ≡ false = same_either_way before.0 after.0 ∙ alone (after.0 == before.0) none in
      of_precedence k sound word path before after (ltb-true before.0 (length k.machines) listed.0) (ltb-true after.0 (length k.machines) later) apart
    where
      alone : (b : Bool) → (b || false) ≡ false → b ≡ false
      alone true h = absurd (cc)
      alone false h = refl
  fields_again (Serialize vs) h = rw (of_machines k sound word path vs h.machines h.apart) refl
  fields_again (Preserve vs r amount) h = of_preserve k sound word path vs r amount h.machines h.apart (listed_resource r h.resource) h.fits
  fields_again (ResourceCapacity s r amount b) h = of_resource_capacity k sound word path s r amount b h.nodes (listed_resource r h.resource) h.fits
  fields_again (RunningCapacity s amount b) h = rw (of_node_count k sound word path s amount b h.nodes h.fits) refl
  fields_again (MaxOnline s amount b) h = rw (of_node_count k sound word path s amount b h.nodes h.fits) refl
  fields_again (Overbook s r num den) h =
      let last = and_parts (nat_le num max_scale && nat_lt 0 den) (nat_le den max_scale) h.fits in
      let first = and_parts (nat_le num max_scale) (nat_lt 0 den) last.0 in
      let bottom : (nat_le 1 den && nat_le den max_scale) ≡ true = grind (arith, common_steps) in
      of_overbook k sound word path s r num den h.nodes (listed_resource r h.resource) first.0 bottom
  fields_again (Online s) h = rw (of_nodes k sound word path s h.nodes) refl
  fields_again (Offline s) h = rw (of_nodes k sound word path s h.nodes) refl
  fields_again (Running vs) h = rw (of_machines k sound word path vs h.machines h.apart) refl
  fields_again (Sleeping vs) h = rw (of_machines k sound word path vs h.machines h.apart) refl
  fields_again (Ready vs) h = rw (of_machines k sound word path vs h.machines h.apart) refl
  fields_again (Killed vs) h = rw (of_machines k sound word path vs h.machines h.apart) refl

  -- the word stands in each object
  kind_found : (c : Constraint) → field_of (object_by k word c) path (codes "kind") ≡ Ok (string word)
  unfolding field_of machines_object flagged_machines_object both_object among_object split_object precedence_object preserve_object resource_capacity_object node_count_object overbook_object nodes_object
  kind_found (Spread vs b) = refl
  kind_found (Ban vs s b) = refl
  kind_found (Fence vs s b) = refl
  kind_found (Gather vs b) = refl
  kind_found (Lonely vs b) = refl
  kind_found (Among vs groups b) = refl
  kind_found (Split parts b) = refl
  kind_found (Root vs) = refl
  kind_found (Precedence before after) = refl
  kind_found (Serialize vs) = refl
  kind_found (Preserve vs r amount) = refl
  kind_found (ResourceCapacity s r amount b) = refl
  kind_found (RunningCapacity s amount b) = refl
  kind_found (MaxOnline s amount b) = refl
  kind_found (Overbook s r num den) = refl
  kind_found (Online s) = refl
  kind_found (Offline s) = refl
  kind_found (Running vs) = refl
  kind_found (Sleeping vs) = refl
  kind_found (Ready vs) = refl
  kind_found (Killed vs) = refl

pub constraint_again : (k : Inventory) → IsInventory k → (path : List ℕ) (c : Constraint) → is_rule k c ≡ true → constraint_from k (constraint_data k c) path ≡ Ok c
unfolding constraint_from constraint_data
constraint_again k sound path c rule =
    rw (word_field-constraint c (object_by k (constraint_word c) c) path (codes "kind") (kind_found k sound (constraint_word c) path c)) (fields_again k sound (constraint_word c) path c (parts_of k c rule))
