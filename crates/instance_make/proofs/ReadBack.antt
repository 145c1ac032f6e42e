-- A printed problem is read again.
use Rattle.std.proofs.Common.{map, codes}
use Rattle.base.proofs.Public.{◌≡◌, ℕ, ◌≤◌, true, List, [], ◌∷◌, ◌++◌, length, nat_le, Some, Ok, refl, ap, ◌∙◌, arith, le-leb, length-map}
use Rattle.instance_make.specs.Prelude.{base_from, constraint_data, constraint_step, constraints_from, field_of, Instance, instance_data, instance_of, inventory_from, inventory_of, is_rule, IsInstance, item_path, json_of, key_path, list_data, list_of, max_constraints, max_horizon, max_text_bytes, number_field_of, number_of, only_of, problem_from, root, walk}
use Rattle.catalogue.specs.declared.constraint.Constraint.{Constraint}
use Rattle.serde_json.specs.Data.{Data, depth}
use Rattle.serde_json.specs.Read.{max_depth}
use Rattle.json_walk.proofs.Public.{items_list-items_of}
use Rattle.remake.proofs.Public.{All_at}
use Rattle.instance_make.proofs.Making.{each_made}
use Rattle.instance_make.proofs.Printed.{small_instance}
use Rattle.instance_make.proofs.AmountsAgain.{from_zero, base_again}
use Rattle.instance_make.proofs.ElementsAgain.{resources_again, nodes_again, machines_again}
use Rattle.instance_make.proofs.RulesAgain.{constraint_again}

-- the problem with the constraints so far
abbrev with_constraints : Instance → List Constraint → Instance
with_constraints p done = record p { constraints = done }

constraint_once : (p : Instance) → IsInstance p → (path : List ℕ) (done : List Constraint) (c : Constraint) (rest : List Constraint) → done ++ c ∷ rest ≡ p.constraints
    → constraint_step path (length done) (with_constraints p done) (constraint_data (inventory_of p) c) ≡ Ok (with_constraints p (done ++ c ∷ []))
unfolding constraint_step
constraint_once p sound path done c rest whole =
    rw (constraint_again (inventory_of p) sound.inventory (item_path path (length done)) c (All_at (λ c. is_rule (inventory_of p) c ≡ true) p.constraints done c rest whole sound.rules)) refl

constraints_again : (p : Instance) → IsInstance p → (path : List ℕ) → constraints_from (with_constraints p []) (list_data (map (constraint_data (inventory_of p)) p.constraints)) path ≡ Ok p
unfolding constraints_from list_of
constraints_again p sound path =
    let few : nat_le (length (map (constraint_data (inventory_of p)) p.constraints)) max_constraints ≡ true = le-leb _ max_constraints (omega (arith, length-map p.constraints (constraint_data (inventory_of p)), sound.few)) in
    rw (items_list-items_of (map (constraint_data (inventory_of p)) p.constraints), few)
    (each_made (constraint_step path) (with_constraints p) (constraint_data (inventory_of p)) p.constraints (constraint_once p sound path))

inventory_again : (p : Instance) → IsInstance p → inventory_from (instance_data p) root ≡ Ok (inventory_of p)
unfolding inventory_from base_from instance_data field_of
inventory_again p sound =
    let k = inventory_of p in
    rw (
      resources_again k sound.inventory (key_path root (codes "resources")),
      base_again k sound.inventory (instance_data p) root refl,
      nodes_again k sound.inventory (key_path root (codes "nodes")),
      machines_again k sound.inventory (key_path root (codes "machines")),
    ) refl

walk_again : (p : Instance) → IsInstance p → walk (instance_data p) ≡ Ok p
unfolding walk problem_from instance_data field_of number_field_of number_of only_of
walk_again p sound =
    rw (
      from_zero p.horizon max_horizon sound.horizon,
      inventory_again p sound,
      constraints_again p sound (key_path root (codes "constraints")),
    ) refl

-- bytes that have a printed problem's value, and are no more than can be read
pub bytes_again : (p : Instance) (d : Data) (bytes : List ℕ) → IsInstance p → d ≡ instance_data p → (depth d ≤ max_depth → json_of bytes ≡ Some d) → length bytes ≤ max_text_bytes
    → instance_of bytes ≡ Ok p
unfolding instance_of
bytes_again p d bytes sound same reads le =
    let value : json_of bytes ≡ Some (instance_data p) = reads (rw same (small_instance p)) ∙ ap Some same in
    rw (le-leb (length bytes) max_text_bytes le, value) (walk_again p sound)
