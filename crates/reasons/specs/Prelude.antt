-- What is cited together of this crate and of those below it, passed on from one place. Declares nothing.
pub use Rattle.domains.specs.Prelude.{AreFewer, choice_count, choices, Climbs, ComesAfter, ComesBefore, domain_at, domain_before, DomainView, HasElement, idle_seen, in_part, is_above_none, is_nought, IsFirstUnfixed, IsFixed, IsFixedAt, IsIn, IsOneOf, IsOnly, IsRowAt, keeping, lost_choices, lower_option, may, no_row, on_side, option_choices, out_of_part, place_index, RegionView, restored, row_choices, same_element, same_place, seen, Sets, sets, setting, sight_at, sight_of, size, starts_from, staying, stays, surely, with_domain}
pub use Rattle.slices.specs.Prelude.{acting_slices, action_count, all_of, Allowed, amount_in, AnyNode, AnyOf, Apart, applies, are_below, AreApart, AreGrouped, AreWithin, Between, Bounded, Choices, choices_of, cost_of, count_in, covers, differ, Each, element_at, element_count, element_named, element_number, ForbidsPair, ForbidsPlace, Form, form_of, form_seen, FormForbidsPair, FormForbidsPlace, FromOthers, goes_on_name, group_sets, Groups, has_bit, Holds, host_is_online, host_of, idle_slices, image_in, InRange, Instance, InTurn, Inventory, inventory_of, is_continuous, is_in, is_member, is_online, is_place, is_raised, is_rule, IsElement, IsFirstBroken, IsFirstFrom, IsGroupsFit, IsHeldWithin, IsInfeasible, IsInPart, IsInstance, IsKept, IsLeastAtEnds, IsLessForForm, IsLessSeparated, IsListed, IsMember, IsOffLimits, IsOptimal, IsPartOf, IsPlan, IsPlanOf, IsQuiet, IsSound, IsWithin, Keeps, least, load, lower, lowest, machine_count, machine_kind, max_action, max_amount, max_capacity, max_cost, max_held, max_horizon, max_machines, max_nodes, members, name_of, node, node_count, node_kind, Nodes, one, Ordered, parted, Places, places_seen, PlanChoices, Powered, powered_count, powered_nodes, presences, present_at, resource_named, room, runs_elsewhere, separated, Separates, Separation, separation_seen, Settled, slice, Snapshot, snapshot_at, snapshot_of, stage_from, stage_of, stands_on, start_of, state_in, state_of, sum_to, TakeTurns, Together, total, unusable_count, usable_of, use_of, vm, wanted_of, wanted_state, weigh, weight_of}
unfoldable pub use Rattle.slices.specs.Prelude.{action_at, action_duration, capacity_of, demand_of, duration_of, end_of, has_machine, has_node, held_at, held_by, is_legal, is_name, IsValid, kind_duration, kind_of, no_nodes, powered_at, slices_by, slices_of, stage_at, usable_at, with_node}
pub use Rattle.base.specs.declared.memory.Memory.{Memory}
pub use Rattle.cluster.specs.declared.choices.Choice.{Choice}
pub use Rattle.cluster.specs.declared.choices.Choice.TheVariants.{Act}
pub use Rattle.cluster.specs.declared.choices.Place.TheVariants.{At, Nowhere}
pub use Rattle.cluster.specs.declared.ids.Element.{Element}
pub use Rattle.cluster.specs.declared.ids.Element.TheVariants.{Node, Vm}
pub use Rattle.cluster.specs.declared.ids.NodeId.{NodeId}
pub use Rattle.cluster.specs.declared.ids.VmId.{VmId}
pub use Rattle.cluster.specs.declared.kinds.Kind.{Kind}
pub use Rattle.cluster.specs.declared.kinds.Kind.TheVariants.{Allocate, Boot, Forge, Kill, Migrate, NodeBoot, NodeShutdown, Resume, Shutdown, Suspend}
pub use Rattle.cluster.specs.declared.names.NameFault.{NameFault}
pub use Rattle.cluster.specs.declared.names.NameFault.TheVariants.{BadName}
pub use Rattle.cluster.specs.declared.sets.NodeSet.{NodeSet}
pub use Rattle.cluster.specs.declared.states.State.{State}
pub use Rattle.cluster.specs.declared.states.State.TheVariants.{Gone, Init}
pub use Rattle.catalogue.specs.declared.targets.Target.TheVariants.{Killed, Offline, Online, Ready, Running, Sleeping}
pub use Rattle.catalogue.specs.declared.targets.Wish.{Wish}
pub use Rattle.catalogue.specs.declared.targets.Wish.TheVariants.{Clash, Keep, To}
pub use Rattle.domains.specs.declared.parts.Change.{Change}
pub use Rattle.domains.specs.declared.parts.Part.{Part}
pub use Rattle.domains.specs.declared.parts.Part.TheVariants.{From, Idle, Upto}
pub use Rattle.domains.specs.declared.parts.Row.{Row}
pub use Rattle.domains.specs.declared.parts.Side.{Side}
pub use Rattle.domains.specs.declared.parts.Side.TheVariants.{Inside, Outside}
pub use Rattle.domains.specs.declared.undo.Before.{Before}
pub use Rattle.domains.specs.declared.undo.Lost.{Lost}
pub use Rattle.domains.specs.declared.view.Lens.{Lens}
pub use Rattle.slices.specs.declared.rule.Broken.{Broken}
pub use Rattle.slices.specs.declared.rule.Rule.{Rule}
pub use Rattle.slices.specs.declared.rule.Rule.TheVariants.{Constraint}
pub use Rattle.slices.specs.declared.slice.Slice.{Slice}
pub use Rattle.slices.specs.declared.slice.Slices.{Slices}
pub use Rattle.slices.specs.declared.slice.Span.{Span}
pub use Rattle.slices.specs.declared.slice.Span.TheVariants.{Always, BeforeEnd, FromStart}
pub use Rattle.slices.specs.declared.slice.Weight.{Weight}
pub use Rattle.slices.specs.declared.slice.Weight.TheVariants.{Amount, Image, Presence}
pub use Rattle.slices.specs.declared.slice.What.{What}
pub use Rattle.slices.specs.declared.slice.What.TheVariants.{Demand, Raise, Use}
pub use Rattle.slices.specs.declared.stage.Progress.{Progress}
pub use Rattle.slices.specs.declared.stage.Progress.TheVariants.{Acting, Started, Unended}
pub use Rattle.slices.specs.declared.stage.Stage.{Stage}
pub use Rattle.reasons.specs.Closed.{all_nodes, HaveChoices, IsClosed, IsEnd, IsFree, IsQuietKind, NoneBroken}
unfoldable pub use Rattle.reasons.specs.Closed.{IsUnrefuted}
pub use Rattle.reasons.specs.Laws.{CostsAtLeast, EmptyStays, Excludes, FreeStays, IsPartIn, IsSetOf, IsStandard, LeastCostGrows, OnlyClosed, OnlyCosts, PartsAreIn, PartsBreak, RefutedExcludes, RefutedExcludesAll, StaysRefuted, SureGrows, UnrefutedByReasons}
pub use Rattle.reasons.specs.Quiet.{AreOf, ClosedAtTurns, ClosedByKinds, IsEndStart, IsTurn, QuietAtTurns, QuietIsFree, TurnsDecide, UnrefutedAtTurns}
pub use Rattle.reasons.specs.Reasons.{Applies, AreBothActing, AreListed, AreScattered, BreaksGroup, ExceedsAmount, ExceedsNodes, ExceedsPower, ExceedsSeparated, HasOutside, IsGroup, IsHall, IsNamed, IsOverload, IsPair, IsPlace, IsPower, IsSetLoad, IsUnusable, nodes_in, Refutes, Says}
pub use Rattle.reasons.specs.Regions.{CostWithin, EndsOfRows, IsRegionOf, IsRowEnd, IsRowTurn, RegionIsOf, row_at, StartHas, StartIsLegal, StartIsOf, StartIsPlan, TurnsOfRows, WithinValid}
pub use Rattle.reasons.specs.Settings.{EndIsChoice, IsMachineUnder, IsNodeUnder, IsSameMachine, IsSameNode, MachineChange, NodeChange, powered_in, room_at, SameSets, SettingAgrees, SettingGrows, SettingPowered, SettingRoom, SettingSets, SettingTotal, SomeEnd}
pub use Rattle.reasons.specs.Start.{every_choice, is_element, places, within}
unfoldable pub use Rattle.reasons.specs.Start.{start_sets}
unfoldable pub use Rattle.reasons.specs.Sure.{least_cost, sure}
pub use Rattle.reasons.specs.declared.reason.Reason.{Reason}
pub use Rattle.reasons.specs.declared.reason.ReasonKind.{ReasonKind}
pub use Rattle.reasons.specs.declared.reason.ReasonKind.TheVariants.{Bound, Empty, Group, Hall, Load, Pair, Place, Power, SetLoad, Usable}
