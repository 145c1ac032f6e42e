-- What is cited together of this crate and of those below it, passed on from one place. Declares nothing.
pub use Rattle.relax.specs.Prelude.{Applies, is_online, IsInstance, max_held, max_nodes, powered_nodes, surely}
unfoldable pub use Rattle.closing.specs.Prelude.{powered_at}
pub use Rattle.reasons.specs.Prelude.{IsRowEnd}
pub use Rattle.closing.specs.Prelude.{inventory_of, is_rule, max_machines, total}
pub use Rattle.profiles.specs.Prelude.{AreMachines, AreStanding, IsStanding, kept_use, least, no_standing, had_there, brought, gain, IsGrown, IsToldOf, IsWeight, never, weight_if}
unfoldable pub use Rattle.profiles.specs.Prelude.{kind_of}
pub use Rattle.rule_frame.specs.Prelude.{constraint_watch, domain_at, ExceedsAmount, seen, IsBroken, IsFreeOf, IsLess, IsPower, IsSetLoad, IsStill, RegionView, row_choices}
pub use Rattle.rule_frame.specs.Changes.{IsMachineLess}
pub use Rattle.closing.specs.Kinds.{weights_on}
pub use Rattle.rule_constraint.specs.Prelude.{Allowed, Apart, AreFewer, AreMovers, base, Bounded, broken_at, choices, choose, Climbs, comes_by, is_continuous, DomainView, Form, form_of, goes_in, hosted_in, if_so, Instance, InTurn, IsBrokenBy, IsClean, IsElement, IsEnd, IsHarmless, IsSized, leave_of, Lists, machine_count, max_amount, no_row, no_watch, node, node_count, Nodes, one, Ordered, passes, Powered, reason_kind, rule_watch, Sets, sets, setting, Settled, Snapshot, state_of, sum_to, Together, unit_of, vm, Watch, watch_at}
unfoldable pub use Rattle.rule_constraint.specs.Prelude.{has_node, held_at, sure}
pub use Rattle.cluster.specs.declared.choices.Choice.{Choice}
pub use Rattle.cluster.specs.declared.choices.Choice.TheVariants.{Act, Idle}
pub use Rattle.cluster.specs.declared.choices.Place.TheVariants.{At, Nowhere}
pub use Rattle.cluster.specs.declared.ids.Element.{Element}
pub use Rattle.cluster.specs.declared.ids.Element.TheVariants.{Node, Vm}
pub use Rattle.cluster.specs.declared.ids.VmId.{VmId}
unfoldable pub use Rattle.cluster.specs.Sets.{has_machine}
pub use Rattle.cluster.specs.declared.sets.MachineSet.{MachineSet}
pub use Rattle.cluster.specs.declared.sets.NodeSet.{NodeSet}
pub use Rattle.cluster.specs.declared.states.State.{State}
pub use Rattle.cluster.specs.declared.states.State.TheVariants.{Gone, Init, Ready, Running, Sleeping}
pub use Rattle.catalogue.specs.declared.constraint.Constraint.{Constraint}
pub use Rattle.domains.specs.Choices.{place_index}
pub use Rattle.domains.specs.Undo.{domain_before}
pub use Rattle.domains.specs.declared.parts.Row.{Row}
pub use Rattle.domains.specs.declared.undo.Before.{Before}
pub use Rattle.slices.specs.declared.slice.Weight.{Weight}
pub use Rattle.slices.specs.declared.slice.Weight.TheVariants.{Amount, Image, Presence}
pub use Rattle.slices.specs.declared.slice.What.{What}
pub use Rattle.slices.specs.declared.slice.What.TheVariants.{Demand, Raise, Use}
pub use Rattle.reasons.specs.declared.reason.ReasonKind.{ReasonKind}
pub use Rattle.reasons.specs.declared.reason.ReasonKind.TheVariants.{Power, SetLoad}
pub use Rattle.rule_constraint.specs.Broken.{of_kind}
pub use Rattle.rule_setload.specs.Amounts.{AreAllHolders, AreAllStayers, AreAmountsKept, AreExtra, AreHolders, AreKept, AreStayersOf, AreStayersTo, bound_in, bound_of, cache_of, IsExtra, IsKept, no_holder, no_stayers, stay_of}
pub use Rattle.rule_setload.specs.Periods.{AreConcerned, AreWithin, has_started, HoldsLeast, HoldsMost, IsAside, IsFit, IsLate, IsShare, IsSpan, max_spare, StaysAt, StaysBefore, StaysDuring, StaysIn, StaysPast, StaysWhenDue}
pub use Rattle.power_bounds.specs.Prelude.{IsDuring, power_of, PowerStaysAt, PowerStaysWhenDue}
pub use Rattle.power_bounds.specs.declared.{period.Period.Period, power.PowerBound.PowerBound}
pub use Rattle.rule_setload.specs.Covers.{set_kinds}
pub use Rattle.rule_setload.specs.declared.bounds.Bound.{Bound}
pub use Rattle.rule_setload.specs.declared.concerned.Members.{Members}
pub use Rattle.rule_setload.specs.declared.holders.Holder.{Holder}
pub use Rattle.rule_setload.specs.declared.span.RowRange.{RowRange}
pub use Rattle.rule_setload.specs.declared.span.Span.{Span}
pub use Rattle.standings.specs.declared.numbers.Standing.{Standing}
pub use Rattle.standings.specs.declared.numbers.Arrival.{Arrival}
pub use Rattle.rule_setload.specs.declared.stayers.Stayers.{Stayers}
