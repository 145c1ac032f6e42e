-- What is cited together of this crate and of those below it, passed on from one place. Declares nothing.
pub use Rattle.cluster.specs.Prelude.{amounts_fit, are_distinct, duration_fits, element_at, element_count, element_named, element_number, element_of_places, goes_on_name, has_bit, has_places, host_is_online, host_of, Inventory, is_online, is_taken, IsFirstFrom, IsInventory, IsListed, IsWithin, kind_count, kind_number, least, lower, lowest, machine_fault, machine_fits, machine_kind_count, machine_own_fits, max_amount, max_duration, max_machines, max_nodes, max_resources, name_of, names_of_machines, names_of_nodes, node_fault, node_fits, node_own_fits, own_fits, resource_fits, resource_named, state_number, sum_to}
unfoldable pub use Rattle.cluster.specs.Prelude.{has_machine, has_node, is_name, kind_of_word, kind_word, kind_words, kinds, no_nodes, state_word, state_words, with_node}
pub use Rattle.cluster.specs.declared.choices.Choice.{Choice}
pub use Rattle.cluster.specs.declared.choices.Choice.TheVariants.{Act, Idle}
pub use Rattle.cluster.specs.declared.choices.Place.{Place}
pub use Rattle.cluster.specs.declared.choices.Place.TheVariants.{At, Nowhere}
pub use Rattle.cluster.specs.declared.durations.Duration.{Duration}
pub use Rattle.cluster.specs.declared.ids.Element.{Element}
pub use Rattle.cluster.specs.declared.ids.Element.TheVariants.{Node, Vm}
pub use Rattle.cluster.specs.declared.ids.NodeId.{NodeId}
pub use Rattle.cluster.specs.declared.ids.VmId.{VmId}
pub use Rattle.cluster.specs.declared.inventory.AddFault.TheVariants.{BadHost}
pub use Rattle.cluster.specs.declared.kinds.Kind.{Kind}
pub use Rattle.cluster.specs.declared.kinds.Kind.TheVariants.{Allocate, Boot, Forge, Kill, Migrate, NodeBoot, NodeShutdown, Resume, Shutdown, Suspend}
pub use Rattle.cluster.specs.declared.kinds.TheConstants.{KINDS}
pub use Rattle.cluster.specs.declared.machines.Machine.{Machine}
pub use Rattle.cluster.specs.declared.names.NameFault.{NameFault}
pub use Rattle.cluster.specs.declared.names.NameFault.TheVariants.{BadName}
pub use Rattle.cluster.specs.declared.sets.MachineSet.{MachineSet}
pub use Rattle.cluster.specs.declared.sets.NodeSet.{NodeSet}
pub use Rattle.cluster.specs.declared.states.State.{State}
pub use Rattle.cluster.specs.declared.states.State.TheVariants.{Gone, Init}
pub use Rattle.catalogue.specs.Cells.{cell, HasRows, limit_cell, wish_cell}
pub use Rattle.catalogue.specs.Faults.{all_of, are_below, are_machines, are_named_machines, are_named_nodes, are_nodes, differ, is_fitting, is_member, is_named_resource, is_resource, is_rule, machines_in}
unfoldable pub use Rattle.catalogue.specs.Faults.{constraint_fault}
pub use Rattle.catalogue.specs.Instance.{Instance, inventory_of, IsElement, IsInstance, SoundInstance}
unfoldable pub use Rattle.catalogue.specs.Instance.{rule_fault}
pub use Rattle.catalogue.specs.Kinds.{is_continuous}
pub use Rattle.catalogue.specs.Limits.{max_capacity, max_constraints, max_groups, max_horizon, max_parts, max_scale}
pub use Rattle.catalogue.specs.Noting.{HaveRows, Notes, SameRows}
pub use Rattle.catalogue.specs.Tables.{AreTables, instance_of, IsKept}
pub use Rattle.catalogue.specs.Twice.{are_new}
pub use Rattle.catalogue.specs.Values.{amount_of, applies_at, continuous_at, lesser_of, limit_with, machine_wish_with, node_wish_with, preserved_with, target_number, use_of, wanted_of, wish_where, wish_with, written_amount, written_of}
unfoldable pub use Rattle.catalogue.specs.Values.{capacity_of, demand_of, limit_of, preserved_of, wanted_machine, wanted_node}
pub use Rattle.catalogue.specs.Words.{constraint_number}
unfoldable pub use Rattle.catalogue.specs.Words.{constraint_word, constraint_words}
pub use Rattle.catalogue.specs.declared.constraint.Constraint.{Constraint}
pub use Rattle.catalogue.specs.declared.constraint.RuleFault.{RuleFault}
pub use Rattle.catalogue.specs.declared.constraint.RuleFault.TheVariants.{Memory, NoSuch, TooGreat, TooMany, Twice}
pub use Rattle.catalogue.specs.declared.constraint.TheConstants.{CONSTRAINT_WORDS}
pub use Rattle.catalogue.specs.declared.targets.Target.{Target}
pub use Rattle.catalogue.specs.declared.targets.Target.TheVariants.{Killed, Offline, Online, Ready, Running, Sleeping}
pub use Rattle.catalogue.specs.declared.targets.Wish.{Wish}
pub use Rattle.catalogue.specs.declared.targets.Wish.TheVariants.{Clash, Keep, To}
