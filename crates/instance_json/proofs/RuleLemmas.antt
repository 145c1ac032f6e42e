-- A constraint that was read has no fault.
use Rattle.std.proofs.Common.{if◌then◌else◌}
use Rattle.base.proofs.Public.{◌≡◌, ◌<◌, ◌&&◌, Bool, true, false, not, length, nat_le, Some, None, arith, common_steps}
use Rattle.instance_json.specs.Prelude.{are_named_machines, are_named_nodes, Constraint, constraint_fault, differ, Instance, inventory_of, is_fitting, is_named_resource, is_rule, machines_in, max_constraints, NoSuch, rule_fault, TooGreat, TooMany, Twice}

by_tests : (full : Bool) (a b c d e : Bool) → full ≡ false → (a && b && c && d && e) ≡ true
    → (if full then Some TooMany else if not (a && b && c) then Some NoSuch else if not d then Some Twice else if e then None else Some TooGreat) ≡ None
by_tests full a b c d e room all = grind (arith, common_steps)

pub no_rule_fault : (p : Instance) (c : Constraint) → length p.constraints < max_constraints → is_rule (inventory_of p) c ≡ true → rule_fault p c ≡ None
unfolding rule_fault constraint_fault
no_rule_fault p c lt all =
    by_tests (nat_le max_constraints (length p.constraints)) (are_named_machines (inventory_of p) c) (are_named_nodes (inventory_of p) c) (is_named_resource (inventory_of p) c) (differ (machines_in c)) (is_fitting c)
    (grind (arith, common_steps)) all
