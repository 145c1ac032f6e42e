-- What is cited together of this crate and of those below it, passed on from one place. Declares nothing.
pub use Rattle.relax.specs.Prelude.{acting_slices, all_nodes, all_of, Allowed, Apart, are_below, AreOf, Between, Bounded, BreaksGroup, choices, Climbs, covers, domain_at, domain_before, DomainView, Each, ExceedsAmount, ExceedsPower, Form, form_of, form_seen, FormForbidsPair, FormForbidsPlace, FromOthers, goes_in, HasElement, HaveChoices, hosted_in, idle_slices, in_part, Instance, InTurn, inventory_of, is_continuous, is_in, is_member, is_rule, IsClosed, IsElement, IsEnd, IsFree, IsGroup, IsInPart, IsMachineUnder, IsMember, IsOffLimits, IsOverload, IsPartOf, IsPower, IsQuietKind, IsSameMachine, IsSetLoad, IsSized, IsTurn, IsWeight, keeping, least, load, machine_count, max_amount, max_capacity, max_machines, max_nodes, may, members, no_row, node, node_count, Nodes, nodes_of, one, Ordered, Places, places_seen, Powered, powered_nodes, present_at, RegionView, room, row_at, same_element, same_place, seen, separated, Separates, Separation, separation_seen, Sets, sets, setting, Settled, slice, Snapshot, stands_on, start_of, state_of, staying, sum_to, surely, Together, total, vm, weigh, weight_of}
unfoldable pub use Rattle.relax.specs.Prelude.{action_at, capacity_of, has_machine, has_node, held_at, held_by, kind_of, powered_at, slices_by, slices_of, stage_at, sure, usable_at}
pub use Rattle.cluster.specs.declared.{choices.Choice.Choice, choices.Choice.TheVariants.Act, choices.Place.TheVariants.At, choices.Place.TheVariants.Nowhere, ids.Element.Element, ids.Element.TheVariants.Node, ids.Element.TheVariants.Vm, ids.NodeId.NodeId, ids.VmId.VmId, kinds.Kind.Kind, kinds.Kind.TheVariants.Allocate, kinds.Kind.TheVariants.Boot, kinds.Kind.TheVariants.Kill, kinds.Kind.TheVariants.Migrate, kinds.Kind.TheVariants.Resume, kinds.Kind.TheVariants.Shutdown, kinds.Kind.TheVariants.Suspend, sets.NodeSet.NodeSet, states.State.State, states.State.TheVariants.Gone, states.State.TheVariants.Init, states.State.TheVariants.Ready, states.State.TheVariants.Running, states.State.TheVariants.Sleeping}
pub use Rattle.catalogue.specs.declared.constraint.Constraint.{Constraint}
pub use Rattle.domains.specs.declared.parts.{Part.TheVariants.From, Row.Row}
pub use Rattle.slices.specs.declared.{slice.Slices.Slices, slice.Span.Span, slice.Span.TheVariants.Always, slice.Span.TheVariants.BeforeEnd, slice.Span.TheVariants.FromStart, slice.Weight.Weight, slice.Weight.TheVariants.Amount, slice.Weight.TheVariants.Image, slice.Weight.TheVariants.Presence, slice.What.What, slice.What.TheVariants.Demand, slice.What.TheVariants.Raise, slice.What.TheVariants.Use, stage.Progress.Progress, stage.Progress.TheVariants.Started, stage.Progress.TheVariants.Unended, stage.Stage.Stage}
pub use Rattle.reasons.specs.declared.reason.ReasonKind.{ReasonKind, TheVariants.Bound, TheVariants.Empty, TheVariants.Group, TheVariants.Hall, TheVariants.Load, TheVariants.Pair, TheVariants.Place, TheVariants.Power, TheVariants.SetLoad, TheVariants.Usable}
pub use Rattle.closing.specs.{Forms.HasMisplaced, Forms.HasSeparated, Forms.IsFormBroken, Kinds.actions_of, Kinds.constraint_watch, Kinds.form_scope, Kinds.HasPair, Kinds.HasPlace, Kinds.IsBroken, Kinds.IsNeeded, Kinds.IsOverloaded, Kinds.load_scope, Kinds.load_watch, Kinds.presences_of, Kinds.rule_watch, Kinds.scope_of, Kinds.separation_scope, Kinds.total_load_watch, Kinds.usable_watch, Kinds.watch_of, Laws.AreClean, Laws.AreCleanAt, Laws.ClosedByWatches, Laws.ConstraintIsLocal, Laws.LoadIsLocal, Laws.ChangeInstantsAreEnough, Laws.ChangeInstantsOfSomeAreEnough, Laws.UsableIsLocal, Looks.broken_at, Looks.IsClean, Looks.IsFound, Looks.IsFreeOf, Looks.IsLook, Looks.IsMetWith, Most.AreWithin, Most.HasSteadyRoom, Most.if_so, Most.IsMostOf, Most.IsMostSure, Most.StaysUsable, Most.StaysWithin, Most.unit_of, Parts.AreRowsPast, Parts.FailAtEnds, Parts.FailAtRows, Parts.IsAbove, Parts.IsEndThat, Parts.IsNodeMissed, Parts.IsNodeSpared, Parts.IsNotBetween, Parts.IsNotUsable, Parts.IsPoweredUnder, Parts.IsRowEndThat, Parts.IsSpared, Parts.NoneAmong, Parts.PassOnlyAt, Parts.StandsUnder, Parts.StartsPast, Stands.AreApart, Stands.has_node_of, Stands.is_node, Stands.IsAnyOf, Stands.IsGroupWith, Stands.IsMisplaced, Stands.IsOn, Stands.IsPlacedBadly, Stands.IsWithin, Stands.MeetsOtherPart, Stands.MeetsStranger, Stands.ShareNode, Stands.StaysClear, ChangeInstants.AreListed, ChangeInstants.Suffice, ChangeInstants.changing, Watches.is_among, Watches.IsLocal, Watches.IsPartWithin, Watches.IsUnseen, Watches.only_of, Watches.Scope, Watches.SeesOnly, Watches.Watch}
pub use Rattle.closing.specs.declared.{shared.stands.Stands.Stands, shared.stands.Stands.TheVariants.On, shared.change_instants.ChangeInstants.ChangeInstants, shared.change_instants.ChangeInstants.TheVariants.Of, shared.change_instants.ChangeInstants.TheVariants.OfAll, look.Look.Look, look.Look.TheVariants.Clean, look.Look.TheVariants.Cut, look.Look.TheVariants.Fail}
