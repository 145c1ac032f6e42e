-- What is cited together of this crate and of those below it, passed on from one place. Declares nothing.
pub use Rattle.catalogue.specs.declared.constraint.Constraint.{Constraint}
pub use Rattle.catalogue.specs.Prelude.{Instance, Inventory, inventory_of, is_rule, IsInstance, IsInventory, machine_fault, max_constraints, node_fault}
unfoldable pub use Rattle.catalogue.specs.Prelude.{rule_fault}
pub use Rattle.cluster.specs.Prelude.{base_fault}
pub use Rattle.remake.specs.Making.{instance_with, with_more}
