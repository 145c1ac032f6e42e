-- What is cited together of this crate and of those below it, passed on from one place. Declares nothing.
pub use Rattle.closing.specs.Prelude.{are_below, inventory_of, is_rule, members}
pub use Rattle.relax.specs.Prelude.{AreScattered, AreBothActing, HasOutside, in_part, keeping, Refutes, seen, Started, Unended, Acting, surely, Progress}
unfoldable pub use Rattle.relax.specs.Prelude.{action_at, action_duration, end_of}
pub use Rattle.standings.specs.Prelude.{kept_use, never}
unfoldable pub use Rattle.standings.specs.Prelude.{stage_at}
pub use Rattle.rule_frame.specs.Prelude.{max_nodes}
pub use Rattle.rule_constraint.specs.Prelude.{AreLeaves, broken_at, choices, Climbs, comes_by, constraint_watch, DomainView, Form, form_of, has_come, hosted_in, Instance, InTurn, is_continuous, is_member, IsBrokenBy, IsClean, IsElement, IsEnd, IsLook, IsMember, IsSized, leave_of, machine_count, no_row, node_count, Nodes, NodeSet, one, Ordered, present_at, reason_kind, row_at, rule_watch, Sets, sets, setting, Snapshot, state_of, Together, vm, VmId, watch_at}
unfoldable pub use Rattle.rule_constraint.specs.Prelude.{has_node, sure}
pub use Rattle.cluster.specs.declared.choices.Choice.{Choice}
pub use Rattle.cluster.specs.declared.choices.Choice.TheVariants.{Act, Idle}
pub use Rattle.cluster.specs.declared.choices.Place.{Place as AnyPlace}
pub use Rattle.cluster.specs.declared.choices.Place.TheVariants.{At, Nowhere}
pub use Rattle.cluster.specs.declared.ids.Element.{Element}
pub use Rattle.cluster.specs.declared.ids.Element.TheVariants.{Node, Vm}
pub use Rattle.cluster.specs.declared.ids.NodeId.{NodeId}
pub use Rattle.catalogue.specs.declared.constraint.Constraint.{Constraint}
pub use Rattle.domains.specs.declared.parts.Row.{Row}
pub use Rattle.slices.specs.Prelude.{AnyNode, AnyOf, group_sets, Groups, groups_seen, IsInstance}
pub use Rattle.slices.specs.declared.slice.Weight.{Weight}
pub use Rattle.slices.specs.declared.slice.Weight.TheVariants.{Presence}
pub use Rattle.reasons.specs.Reasons.{Applies, IsGroup}
pub use Rattle.reasons.specs.declared.reason.ReasonKind.{ReasonKind}
pub use Rattle.reasons.specs.declared.reason.ReasonKind.TheVariants.{Bound, Empty, Group, Hall, Load, Pair, Place, Power, SetLoad, Usable}
pub use Rattle.rule_constraint.specs.Broken.{of_kind}
pub use Rattle.rule_group.specs.Covers.{group_kinds}
pub use Rattle.rule_group.specs.Spots.{AreSpots, HasHost, HasSpots, IsDue, IsPlaceSpot, IsSpot, IsSpotIn}
pub use Rattle.rule_group.specs.Together.{AreCommon, AreNodesOf, FitsAt, FitsMember, group_count, group_nodes, IsAtOne, IsFound, IsHad, IsInside, IsServed, MayBeIn}
pub use Rattle.rule_group.specs.Scattered.{IsOut, LacksSpot, MovesTo, StandsAt, StandsUnder}
pub use Rattle.rule_group.specs.Acting.{AreEndedBy, AreStartedFrom, AvoidsSpan, EndsBy, HasSpan, IsClearOf, KeepsOff, StartsFrom}
pub use Rattle.rule_group.specs.declared.acting.Span.{Span}
pub use Rattle.rule_group.specs.declared.spots.Spots.{Spots}
