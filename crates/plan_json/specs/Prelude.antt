-- What is cited together of this crate and of those below it, passed on from one place. Declares nothing.
pub use Rattle.json_walk.specs.Prelude.{Gives, path_of}
unfoldable pub use Rattle.json_walk.specs.Prelude.{field_of, number_field_of, number_of, only_of, optional}
pub use Rattle.json_text.specs.Prelude.{field_by, json_of, optional_by, root}
unfoldable pub use Rattle.json_text.specs.Prelude.{each, item_path, key_path, list_of, text_of}
pub use Rattle.slices.specs.Prelude.{choices_of, element_at, element_count, element_number, Instance, Inventory, inventory_of, is_online, is_raised, IsElement, IsInstance, IsInventory, IsListed, IsPlanOf, kind_number, machine_count, machine_kind, max_machines, max_nodes, name_of, names_of_machines, names_of_nodes, node, node_count, node_kind, parted, PlanChoices, state_of, vm, wanted_of, wanted_state}
unfoldable pub use Rattle.slices.specs.Prelude.{action_duration, end_of, has_machine, has_node, is_legal, kind_of, kind_word, kind_words}
pub use Rattle.cluster.specs.declared.choices.Choice.{Choice}
pub use Rattle.cluster.specs.declared.choices.Choice.TheVariants.{Act, Idle}
pub use Rattle.cluster.specs.declared.choices.Place.{Place}
pub use Rattle.cluster.specs.declared.choices.Place.TheVariants.{At, Nowhere}
pub use Rattle.cluster.specs.declared.ids.Element.{Element}
pub use Rattle.cluster.specs.declared.ids.Element.TheVariants.{Node, Vm}
pub use Rattle.cluster.specs.declared.ids.NodeId.{NodeId}
pub use Rattle.cluster.specs.declared.kinds.Kind.{Kind}
pub use Rattle.cluster.specs.declared.kinds.Kind.TheVariants.{Allocate, Boot, Forge, Kill, Migrate, NodeBoot, NodeShutdown, Resume, Shutdown, Suspend}
pub use Rattle.cluster.specs.declared.sets.MachineSet.{MachineSet}
pub use Rattle.cluster.specs.declared.sets.NodeSet.{NodeSet}
pub use Rattle.json_walk.specs.Json.{max_text_bytes}
pub use Rattle.catalogue.specs.declared.targets.Target.{Target}
pub use Rattle.catalogue.specs.declared.targets.Target.TheVariants.{Killed, Offline, Online, Ready, Running, Sleeping}
pub use Rattle.catalogue.specs.declared.targets.Wish.{Wish}
pub use Rattle.catalogue.specs.declared.targets.Wish.TheVariants.{Clash, Keep, To}
pub use Rattle.json_text.specs.Out.{items}
unfoldable pub use Rattle.plan_json.specs.Actions.{action_from, kind_from, listed_element, listed_place}
pub use Rattle.plan_json.specs.Marks.{are_apart, AreActions, AreMarked, IsWithinLimits}
pub use Rattle.plan_json.specs.Plans.{action_for, as_choice, choice_for, is_idle, is_kind, is_legal_action, is_same, must_act}
unfoldable pub use Rattle.plan_json.specs.Plans.{action_step, actions_from, choices_for, first_to_act, plan_of, plan_or_none, plan_with, walk}
pub use Rattle.plan_json.specs.Print.{choice_data, element_data, name_data, word_at}
unfoldable pub use Rattle.plan_json.specs.Print.{action_data, actions_data, plan_data, plan_text}
pub use Rattle.plan_json.specs.Walk.{plan_fault_of}
pub use Rattle.plan_json.specs.declared.fault.PlanFault.TheVariants.{Field, NotJson}
pub use Rattle.plan_json.specs.declared.fields.Action.{Action}
