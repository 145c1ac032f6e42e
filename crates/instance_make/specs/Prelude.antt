-- What is cited together of this crate and of those below it, passed on from one place. Declares nothing.
pub use Rattle.json_walk.specs.Prelude.{keys_of, optional_flag}
unfoldable pub use Rattle.json_walk.specs.Prelude.{flag_of, number_field_of, number_of, object_of, only_of, optional}
pub use Rattle.json_text.specs.Prelude.{root}
unfoldable pub use Rattle.json_text.specs.Prelude.{item_path, list_of}
pub use Rattle.slices.specs.Prelude.{are_below, common_of, differs_in, element_of_places, has_places, Holds, InRange, is_raised, IsInfeasible, IsInstance, IsPlan, KeepsAt, limit_with, load, machine_fault, machine_own, machine_own_fits, machine_wish_with, max_duration, max_horizon, max_scale, names_of_machines, names_of_nodes, node, node_fault, node_own, node_own_fits, node_wish_with, Nodes, one, preserved_with, snapshot_at, state_of, sum_to, use_of, vm, weight_of, wish_where, written_of}
unfoldable pub use Rattle.slices.specs.Prelude.{action_duration, capacity_of, demand_of, duration_of, end_of, held_by, is_legal, IsValid, kind_duration, kind_of, kind_words, limit_of, may_idle, preserved_of, slices_by, slices_of, snapshot, stage_at, stages_at, wanted_machine, wanted_node}
pub use Rattle.instance_json.specs.Prelude.{all_of, amounts_fit, amounts_in, are_distinct, are_machines, are_named_machines, are_named_nodes, are_nodes, differ, duration_fits, field_by, has_kind, host_is_online, Instance, Inventory, inventory_of, is_fitting, is_kind_key, is_member, is_named_resource, is_online, is_resource, is_rule, is_taken, IsInventory, IsListed, IsWithin, json_of, kind_count, kind_number, machine_fits, machine_keys, machine_kind_count, machines_in, max_amount, max_constraints, max_groups, max_machines, max_nodes, max_parts, max_resources, name_of, no_durations, node_fits, one_instant, only_keys, optional_number, own_durations, own_fits, Walk}
unfoldable pub use Rattle.instance_json.specs.Prelude.{among_from, amounts_from, base_durations, base_from, both_fields, constraint_by, constraint_fault, constraint_from, constraint_step, constraint_word, constraints_from, duration_by_kind, duration_from, durations_from, each, field_of, flagged_machines_fields, given_duration, group_step, groups_from, has_node, host_from, instance_of, inventory_from, is_name, key_path, kind_word, kinds, listed_node, listed_resource, machine_from, machine_item, machine_step, machines_after, machines_fields, machines_from, new_name_from, no_nodes, node_count_fields, node_from, node_item, node_set, node_step, nodes_fields, nodes_from, overbook_from, part_step, parts_from, precedence_from, preserve_from, problem_from, resource_amounts, resource_capacity_from, resource_step, resources_from, rule_fault, split_from, state_by, state_from, state_word, unit_from, walk, with_node}
pub use Rattle.remake.specs.Making.{with_more}
pub use Rattle.cluster.specs.declared.choices.Place.TheVariants.{At, Nowhere}
pub use Rattle.cluster.specs.declared.durations.Duration.{Duration}
pub use Rattle.cluster.specs.declared.ids.Element.TheVariants.{Node, Vm}
pub use Rattle.cluster.specs.declared.ids.NodeId.{NodeId}
pub use Rattle.cluster.specs.declared.ids.VmId.{VmId}
pub use Rattle.cluster.specs.declared.inventory.AddFault.TheVariants.{BadHost}
pub use Rattle.cluster.specs.declared.kinds.Kind.{Kind}
pub use Rattle.cluster.specs.declared.kinds.Kind.TheVariants.{Allocate, Boot, Forge, Kill, Migrate, NodeBoot, NodeShutdown, Resume, Shutdown, Suspend}
pub use Rattle.cluster.specs.declared.kinds.TheConstants.{KINDS}
pub use Rattle.cluster.specs.declared.machines.Machine.{Machine}
pub use Rattle.cluster.specs.declared.sets.NodeSet.{NodeSet}
pub use Rattle.cluster.specs.declared.states.State.{State}
pub use Rattle.cluster.specs.declared.states.State.TheVariants.{Running}
pub use Rattle.json_walk.specs.Json.{max_text_bytes}
pub use Rattle.catalogue.specs.declared.constraint.RuleFault.TheVariants.{NoSuch, TooGreat, TooMany, Twice}
pub use Rattle.catalogue.specs.declared.targets.Target.TheVariants.{Offline, Online}
pub use Rattle.catalogue.specs.declared.targets.Wish.{Wish}
pub use Rattle.catalogue.specs.declared.targets.Wish.TheVariants.{Keep, To}
pub use Rattle.json_text.specs.Out.{items, members}
pub use Rattle.slices.specs.declared.rule.Rule.{Rule}
pub use Rattle.slices.specs.declared.rule.Rule.TheVariants.{Constraint, Load, Usable}
pub use Rattle.slices.specs.declared.slice.Span.TheVariants.{Always, BeforeEnd, FromStart}
pub use Rattle.slices.specs.declared.slice.Weight.{Weight}
pub use Rattle.slices.specs.declared.slice.Weight.TheVariants.{Amount, Image, Presence}
pub use Rattle.slices.specs.declared.slice.What.TheVariants.{Demand, Use}
pub use Rattle.slices.specs.declared.stage.Stage.{Stage}
pub use Rattle.instance_json.specs.declared.fault.InstanceFault.TheVariants.{Field}
pub use Rattle.instance_make.specs.Building.{generated_resources, HasRoom}
unfoldable pub use Rattle.instance_make.specs.Building.{machines_to, nodes_to}
pub use Rattle.instance_make.specs.Elements.{duration_of_kind, host_data, machine_name, node_name, own_data, resource_name, unit_members}
unfoldable pub use Rattle.instance_make.specs.Elements.{amounts_data, duration_data, durations_data, machine_data, node_data}
pub use Rattle.instance_make.specs.Emptying.{EmptyingIsValid, goes_to, IsFeasible, last_end, leaves}
unfoldable pub use Rattle.instance_make.specs.Emptying.{emptying}
pub use Rattle.instance_make.specs.Generated.{amounts, emptied, from, generated_duration, host_of, machine_text, machine_total, node_text, node_total, others, set_of, spread_of, vms}
unfoldable pub use Rattle.instance_make.specs.Generated.{cpu_of, generated, generated_constraints, generated_machine, generated_node, mem_of}
pub use Rattle.instance_make.specs.Laws.{GeneratedTextIsShort, most_generated_bytes}
pub use Rattle.instance_make.specs.Members.{put_if}
unfoldable pub use Rattle.instance_make.specs.Members.{members_by}
pub use Rattle.instance_make.specs.Rules.{list_data, node_name_at, object_by}
unfoldable pub use Rattle.instance_make.specs.Rules.{among_object, both_object, constraint_data, flagged_machines_object, groups_list, machines_list, machines_object, node_count_object, nodes_in, nodes_list, nodes_object, overbook_object, parts_list, precedence_object, preserve_object, resource_capacity_object, split_object}
unfoldable pub use Rattle.instance_make.specs.Text.{instance_data, instance_text}
