-- What is cited together of this crate and of those below it, passed on from one place. Declares nothing.
pub use Rattle.json_walk.specs.Prelude.{Fails, fault_of, field_by, Gives, json_of, only_keys, optional_by, optional_number, path_of, ◌>>=◌}
unfoldable pub use Rattle.json_walk.specs.Prelude.{each, field_of, key_path, map_walk, text_of, word_field, word_field_of, word_of}
pub use Rattle.catalogue.specs.Prelude.{all_of, amounts_fit, are_distinct, are_machines, are_named_machines, are_named_nodes, are_nodes, constraint_number, differ, duration_fits, host_is_online, Instance, Inventory, inventory_of, is_fitting, is_member, is_named_resource, is_online, is_resource, is_rule, is_taken, IsInventory, IsListed, IsWithin, kind_count, kind_number, machine_fits, machine_kind_count, machines_in, max_amount, max_constraints, max_groups, max_machines, max_nodes, max_parts, max_resources, name_of, node_fits, own_fits, resource_fits, state_number}
unfoldable pub use Rattle.catalogue.specs.Prelude.{constraint_fault, constraint_word, constraint_words, has_machine, has_node, is_name, kind_word, kinds, no_nodes, rule_fault, state_word, state_words, with_node}
pub use Rattle.cluster.specs.declared.durations.Duration.{Duration}
pub use Rattle.cluster.specs.declared.ids.Element.TheVariants.{Vm}
pub use Rattle.cluster.specs.declared.ids.NodeId.{NodeId}
pub use Rattle.cluster.specs.declared.ids.VmId.{VmId}
pub use Rattle.cluster.specs.declared.kinds.Kind.{Kind}
pub use Rattle.cluster.specs.declared.kinds.TheConstants.{KINDS}
pub use Rattle.cluster.specs.declared.sets.MachineSet.{MachineSet}
pub use Rattle.cluster.specs.declared.sets.NodeSet.{NodeSet}
pub use Rattle.cluster.specs.declared.states.State.{State}
pub use Rattle.catalogue.specs.declared.constraint.Constraint.{Constraint}
pub use Rattle.catalogue.specs.declared.constraint.RuleFault.TheVariants.{NoSuch, TooGreat, TooMany, Twice}
pub use Rattle.instance_json.specs.Durations.{has_kind, is_kind_key, no_durations, one_instant, own_durations}
unfoldable pub use Rattle.instance_json.specs.Durations.{base_durations, duration_by_kind, duration_from, durations_from, given_duration, unit_from}
pub use Rattle.instance_json.specs.Elements.{amounts_in, machine_keys}
unfoldable pub use Rattle.instance_json.specs.Elements.{amounts_from, host_from, machine_from, machine_step, machines_from, node_from, node_step, nodes_from, resource_amounts, state_by, state_from}
pub use Rattle.instance_json.specs.Fitting.{kind_fits, owner_fits}
unfoldable pub use Rattle.instance_json.specs.Instance.{base_from, instance_of, inventory_from, problem_from, walk}
pub use Rattle.instance_json.specs.Listed.{AreMarked, listed_machines}
pub use Rattle.instance_json.specs.Lists.{machine_list}
unfoldable pub use Rattle.instance_json.specs.Lists.{group_step, groups_from, machine_item, machines_after, node_item, node_set, part_step, parts_from}
unfoldable pub use Rattle.instance_json.specs.Names.{listed_machine, listed_node, listed_resource, name_from, new_name_from, resource_step, resources_from}
unfoldable pub use Rattle.instance_json.specs.Rules.{among_from, both_fields, constraint_by, constraint_from, constraint_step, constraints_from, flagged_machines_fields, machines_fields, node_count_fields, nodes_fields, overbook_from, precedence_from, preserve_from, resource_capacity_from, split_from}
pub use Rattle.instance_json.specs.Walk.{instance_fault_of, Walk}
pub use Rattle.instance_json.specs.declared.constraint_kind.ConstraintKind.{ConstraintKind}
pub use Rattle.instance_json.specs.declared.constraint_kind.ConstraintKind.TheVariants.{Among, Ban, Fence, Gather, Killed, Lonely, MaxOnline, Offline, Online, Overbook, Precedence, Preserve, Ready, ResourceCapacity, Root, Running, RunningCapacity, Serialize, Sleeping, Split, Spread}
pub use Rattle.instance_json.specs.declared.constraint_kind.TheConstants.{CONSTRAINT_KINDS}
pub use Rattle.instance_json.specs.declared.durations.Owner.{Owner}
pub use Rattle.instance_json.specs.declared.durations.Owner.TheVariants.{Either, Machine, Node}
pub use Rattle.instance_json.specs.declared.fault.InstanceFault.{InstanceFault}
pub use Rattle.instance_json.specs.declared.fault.InstanceFault.TheVariants.{Field, NotJson}
pub use Rattle.instance_json.specs.declared.states.StateWord.{StateWord}
pub use Rattle.instance_json.specs.declared.states.TheConstants.{STATES}
