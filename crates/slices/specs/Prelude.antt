-- What is cited together of this crate and of those below it, passed on from one place. Declares nothing.
pub use Rattle.catalogue.specs.Prelude.{all_of, amounts_fit, are_below, are_distinct, are_machines, are_named_machines, are_named_nodes, are_nodes, cell, continuous_at, differ, duration_fits, element_at, element_count, element_named, element_number, element_of_places, goes_on_name, has_bit, has_places, host_is_online, host_of, Instance, Inventory, inventory_of, is_continuous, is_fitting, is_member, is_named_resource, is_online, is_resource, is_rule, is_taken, IsElement, IsFirstFrom, IsInstance, IsInventory, IsListed, IsWithin, kind_count, kind_number, least, limit_with, lower, lowest, machine_fault, machine_fits, machine_kind_count, machine_own_fits, machine_wish_with, machines_in, max_amount, max_capacity, max_constraints, max_duration, max_groups, max_horizon, max_machines, max_nodes, max_parts, max_resources, max_scale, name_of, names_of_machines, names_of_nodes, node_fault, node_fits, node_own_fits, node_wish_with, own_fits, preserved_with, resource_named, SoundInstance, sum_to, use_of, wanted_of, wish_where, written_of}
unfoldable pub use Rattle.catalogue.specs.Prelude.{capacity_of, constraint_fault, constraint_word, demand_of, has_machine, has_node, is_name, kind_of_word, kind_word, kind_words, kinds, limit_of, no_nodes, preserved_of, rule_fault, state_word, wanted_machine, wanted_node, with_node}
pub use Rattle.base.specs.declared.memory.Memory.{Memory}
pub use Rattle.cluster.specs.declared.choices.Choice.{Choice}
pub use Rattle.cluster.specs.declared.choices.Choice.TheVariants.{Act, Idle}
pub use Rattle.cluster.specs.declared.choices.Place.{Place}
pub use Rattle.cluster.specs.declared.choices.Place.TheVariants.{At, Nowhere}
pub use Rattle.cluster.specs.declared.durations.Duration.{Duration}
pub use Rattle.cluster.specs.declared.ids.Element.{Element}
pub use Rattle.cluster.specs.declared.ids.Element.TheVariants.{Node, Vm}
pub use Rattle.cluster.specs.declared.ids.NodeId.{NodeId}
pub use Rattle.cluster.specs.declared.ids.VmId.{VmId}
pub use Rattle.cluster.specs.declared.inventory.AddFault.TheVariants.{BadHost}
pub use Rattle.cluster.specs.declared.kinds.Kind.{Kind}
pub use Rattle.cluster.specs.declared.kinds.Kind.TheVariants.{Allocate, Boot, Forge, Kill, Migrate, NodeBoot, NodeShutdown, Resume, Shutdown, Suspend}
pub use Rattle.cluster.specs.declared.kinds.TheConstants.{KINDS}
pub use Rattle.cluster.specs.declared.machines.Machine.{Machine}
pub use Rattle.cluster.specs.declared.names.NameFault.{NameFault}
pub use Rattle.cluster.specs.declared.names.NameFault.TheVariants.{BadName}
pub use Rattle.cluster.specs.declared.sets.MachineSet.{MachineSet}
pub use Rattle.cluster.specs.declared.sets.NodeSet.{NodeSet}
pub use Rattle.cluster.specs.declared.states.State.{State}
pub use Rattle.cluster.specs.declared.states.State.TheVariants.{Gone, Init}
pub use Rattle.catalogue.specs.declared.constraint.RuleFault.TheVariants.{NoSuch, TooGreat, TooMany, Twice}
pub use Rattle.catalogue.specs.declared.targets.Target.{Target}
pub use Rattle.catalogue.specs.declared.targets.Target.TheVariants.{Killed, Offline, Online, Ready, Running, Sleeping}
pub use Rattle.catalogue.specs.declared.targets.Wish.{Wish}
pub use Rattle.catalogue.specs.declared.targets.Wish.TheVariants.{Clash, Keep, To}
pub use Rattle.slices.specs.Actions.{amount_at, choice_duration, common_of, differs_in, duration_amount, end_wish, is_raised, machine_kind, machine_own, may_machine_idle, may_node_idle, node_kind, node_own, own_of, wanted_state}
unfoldable pub use Rattle.slices.specs.Actions.{action_duration, duration_of, end_of, is_legal, kind_duration, kind_of, may_idle}
pub use Rattle.slices.specs.ByNode.{AbsentUsesNothing, HeldByNode, HeldIsSmall, HeldOnMore, PresentOnSet, PresentSomewhere}
pub use Rattle.slices.specs.Costs.{cost_of, IsInfeasible, IsOptimal}
pub use Rattle.slices.specs.Elements.{is_place, machine_count, node, node_count, state_in, state_of, vm}
pub use Rattle.slices.specs.Ends.{action_count, ActionAtEnds, HeldAtEnds, HeldInSteps, IsLeastAtEnds, IsPointwise, powered_count, PoweredAtEnds, snapshot_of, step_value, Steps, unusable_count, UnusableAtEnds}
pub use Rattle.slices.specs.Fewer.{AreLessPresent, IsLessForForm, IsLessSeparated, LessHolds}
pub use Rattle.slices.specs.Forms.{Allowed, AnyNode, AnyOf, Apart, Between, Bounded, Each, Form, form_of, form_seen, FromOthers, Groups, groups_seen, InTurn, IsGroupsFit, IsSound, members, Ordered, Places, places_seen, Powered, separated, Separation, separation_seen, Settled, SoundForm, Together}
pub use Rattle.slices.specs.Holdings.{amount_in, count_in, held_of, holding_of, image_in, is_in, is_raise, IsHeldWithin, IsHolding, IsHoldingAt, IsHoldingOf, IsNodeWithin, node_of, with_raise}
pub use Rattle.slices.specs.Holds.{AreAbsent, AreAllowed, AreApart, AreGrouped, AreWithin, ForbidsPair, ForbidsPlace, FormForbidsPair, FormForbidsPlace, group_sets, Holds, IsInPart, IsKept, IsMember, IsOffLimits, runs_elsewhere, Separates, TakeTurns}
pub use Rattle.slices.specs.Legal.{DurationsLast, EndsByDuration, LegalActsLast, LegalEarlier, LegalIsPlan}
pub use Rattle.slices.specs.Limits.{max_action, max_cost, max_held, max_load}
pub use Rattle.slices.specs.Parts.{AreOver, ExecutionKeeps, FirstIsOne, IsPartOf, IsStagePart, OverAsPlanned, PartsKeep, StagePartsArePart}
pub use Rattle.slices.specs.Plans.{Choices, choices_of, HasElement, IsPlan, IsPlanOf, parted, PlanChoices}
pub use Rattle.slices.specs.Rules.{applies, InRange, IsFirstBroken, IsFirstRule, Keeps, KeepsAllAt, KeepsAt, Precedes}
unfoldable pub use Rattle.slices.specs.Rules.{IsValid}
pub use Rattle.slices.specs.Snapshots.{IsWeight, load, powered_nodes, presences, present_at, room, Snapshot, snapshot_at, stands_on, total}
unfoldable pub use Rattle.slices.specs.Snapshots.{action_at, held_at, held_by, powered_at, snapshot, stage_at, stages_at, usable_at}
pub use Rattle.slices.specs.Stages.{acting_slices, covers, idle_slices, Nodes, one, powered_of, progress_of, slice, stage_from, stage_of, usable_of, weigh, weight_of}
unfoldable pub use Rattle.slices.specs.Stages.{slices_by, slices_of}
pub use Rattle.slices.specs.Starts.{ActionQuiet, form_matters, HasLastStart, HeldQuiet, IsQuiet, KeepsQuiet, LastStart, machine_matters, matters, MattersQuiet, node_matters, PoweredQuiet, separation_matters, start_of, UsableQuiet}
pub use Rattle.slices.specs.declared.holding.Held.{Held}
pub use Rattle.slices.specs.declared.holding.Holding.{Holding}
pub use Rattle.slices.specs.declared.rule.Broken.{Broken}
pub use Rattle.slices.specs.declared.rule.Rule.{Rule}
pub use Rattle.slices.specs.declared.rule.Rule.TheVariants.{Constraint, Load, Usable}
pub use Rattle.slices.specs.declared.slice.Slice.{Slice}
pub use Rattle.slices.specs.declared.slice.Slices.{Slices}
pub use Rattle.slices.specs.declared.slice.Span.{Span}
pub use Rattle.slices.specs.declared.slice.Span.TheVariants.{Always, BeforeEnd, FromStart}
pub use Rattle.slices.specs.declared.slice.Weight.{Weight}
pub use Rattle.slices.specs.declared.slice.Weight.TheVariants.{Amount, Image, Presence}
pub use Rattle.slices.specs.declared.slice.What.{What}
pub use Rattle.slices.specs.declared.slice.What.TheVariants.{Demand, Raise, Use}
pub use Rattle.slices.specs.declared.stage.Progress.{Progress}
pub use Rattle.slices.specs.declared.stage.Progress.TheVariants.{Acting, Started, Unended}
pub use Rattle.slices.specs.declared.stage.Stage.{Stage}
