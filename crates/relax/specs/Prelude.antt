-- What is cited together of this crate and of those below it, passed on from one place. Declares nothing.
pub use Rattle.reasons.specs.Prelude.{acting_slices, action_count, all_nodes, all_of, Allowed, amount_in, Apart, Applies, are_below, AreBothActing, AreFewer, AreListed, AreOf, AreScattered, Between, Bounded, BreaksGroup, choice_count, Choices, choices, choices_of, Climbs, ComesAfter, ComesBefore, cost_of, count_in, covers, domain_at, domain_before, DomainView, Each, element_at, element_count, element_named, element_number, ExceedsAmount, ExceedsPower, ExceedsSeparated, ForbidsPair, ForbidsPlace, Form, form_of, form_seen, FormForbidsPair, FormForbidsPlace, FromOthers, has_bit, HasElement, HasOutside, HaveChoices, host_is_online, host_of, idle_seen, idle_slices, image_in, in_part, InRange, Instance, InTurn, Inventory, inventory_of, is_above_none, is_continuous, is_element, is_in, is_member, is_nought, is_online, is_place, is_raised, is_rule, IsClosed, IsElement, IsEnd, IsFirstBroken, IsFirstFrom, IsFirstUnfixed, IsFixed, IsFixedAt, IsFree, IsGroup, IsHall, IsHeldWithin, IsIn, IsInfeasible, IsInPart, IsInstance, IsLeastAtEnds, IsListed, IsMachineUnder, IsMember, IsNamed, IsOffLimits, IsOneOf, IsOnly, IsOptimal, IsOverload, IsPair, IsPartOf, IsPlace, IsPlan, IsPlanOf, IsPower, IsQuietKind, IsRowAt, IsSameMachine, IsSetLoad, IsTurn, IsUnusable, IsWithin, keeping, least, load, lost_choices, lower, lower_option, lowest, machine_count, machine_kind, max_action, max_amount, max_capacity, max_cost, max_held, max_horizon, max_machines, max_nodes, may, members, name_of, no_row, node, node_count, node_kind, Nodes, nodes_in, NoneBroken, on_side, one, option_choices, Ordered, out_of_part, parted, place_index, Places, places_seen, PlanChoices, Powered, powered_count, powered_nodes, presences, present_at, Refutes, RegionView, resource_named, restored, room, row_at, row_choices, runs_elsewhere, same_element, same_place, Says, seen, separated, Separates, Separation, separation_seen, Sets, sets, setting, Settled, sight_at, sight_of, size, slice, Snapshot, stage_from, stage_of, stands_on, start_of, starts_from, state_in, state_of, staying, stays, sum_to, surely, Together, total, unusable_count, usable_of, use_of, vm, wanted_of, wanted_state, weigh, weight_of, with_domain}
unfoldable pub use Rattle.reasons.specs.Prelude.{action_at, action_duration, capacity_of, demand_of, duration_of, end_of, has_machine, has_node, held_at, held_by, is_legal, IsValid, kind_duration, kind_of, least_cost, no_nodes, powered_at, slices_by, slices_of, stage_at, start_sets, sure, usable_at, with_node}
pub use Rattle.base.specs.declared.memory.Memory.{Memory}
pub use Rattle.cluster.specs.declared.{choices.Choice.Choice, choices.Choice.TheVariants.Act, choices.Place.TheVariants.At, choices.Place.TheVariants.Nowhere, ids.Element.Element, ids.Element.TheVariants.Node, ids.Element.TheVariants.Vm, ids.NodeId.NodeId, ids.VmId.VmId, kinds.Kind.Kind, kinds.Kind.TheVariants.Allocate, kinds.Kind.TheVariants.Boot, kinds.Kind.TheVariants.Forge, kinds.Kind.TheVariants.Kill, kinds.Kind.TheVariants.Migrate, kinds.Kind.TheVariants.NodeBoot, kinds.Kind.TheVariants.NodeShutdown, kinds.Kind.TheVariants.Resume, kinds.Kind.TheVariants.Shutdown, kinds.Kind.TheVariants.Suspend, sets.NodeSet.NodeSet, states.State.State, states.State.TheVariants.Gone, states.State.TheVariants.Init}
pub use Rattle.catalogue.specs.declared.{constraint.Constraint.Constraint, targets.Target.TheVariants.Killed, targets.Target.TheVariants.Offline, targets.Target.TheVariants.Online, targets.Target.TheVariants.Ready, targets.Target.TheVariants.Running, targets.Target.TheVariants.Sleeping, targets.Wish.Wish, targets.Wish.TheVariants.Clash, targets.Wish.TheVariants.Keep, targets.Wish.TheVariants.To}
pub use Rattle.domains.specs.declared.{parts.Change.Change, parts.Part.Part, parts.Part.TheVariants.From, parts.Part.TheVariants.Idle, parts.Part.TheVariants.Upto, parts.Row.Row, parts.Side.Side, parts.Side.TheVariants.Inside, parts.Side.TheVariants.Outside, undo.Before.Before, undo.Lost.Lost, view.Lens.Lens}
pub use Rattle.slices.specs.declared.{rule.Broken.Broken, slice.Slice.Slice, slice.Slices.Slices, slice.Span.Span, slice.Span.TheVariants.Always, slice.Span.TheVariants.BeforeEnd, slice.Span.TheVariants.FromStart, slice.Weight.Weight, slice.Weight.TheVariants.Amount, slice.Weight.TheVariants.Image, slice.Weight.TheVariants.Presence, slice.What.What, slice.What.TheVariants.Demand, slice.What.TheVariants.Raise, slice.What.TheVariants.Use, stage.Progress.Progress, stage.Progress.TheVariants.Acting, stage.Progress.TheVariants.Started, stage.Progress.TheVariants.Unended, stage.Stage.Stage}
pub use Rattle.reasons.specs.declared.reason.{Reason.Reason, ReasonKind.ReasonKind, ReasonKind.TheVariants.Bound, ReasonKind.TheVariants.Empty, ReasonKind.TheVariants.Group, ReasonKind.TheVariants.Hall, ReasonKind.TheVariants.Load, ReasonKind.TheVariants.Pair, ReasonKind.TheVariants.Place, ReasonKind.TheVariants.Power, ReasonKind.TheVariants.SetLoad, ReasonKind.TheVariants.Usable}
pub use Rattle.relax.specs.{Areas.AreLegal, Areas.goes_in, Areas.hosted_in, Areas.IsSized, Areas.IsWeight, Areas.nodes_of, Laws.LegalStays, Members.AreAllOut, Members.IsOneIn, Rows.rows_of}
