-- What is cited together of this crate and of those below it, passed on from one place. Declares nothing.
pub use Rattle.relax.specs.Prelude.{is_online, max_nodes, powered_nodes, surely}
pub use Rattle.reasons.specs.Prelude.{IsRowEnd}
pub use Rattle.closing.specs.Prelude.{choices, Climbs, DomainView, form_of, Instance, IsElement, IsEnd, IsSized, no_row, node, node_count, Nodes, Sets, sets, setting, sum_to, vm}
unfoldable pub use Rattle.closing.specs.Prelude.{has_node, powered_at, sure}
pub use Rattle.cluster.specs.declared.choices.Choice.{Choice}
pub use Rattle.cluster.specs.declared.choices.Choice.TheVariants.{Act, Idle}
pub use Rattle.cluster.specs.declared.ids.Element.{Element}
pub use Rattle.cluster.specs.declared.ids.Element.TheVariants.{Node, Vm}
pub use Rattle.domains.specs.declared.parts.Row.{Row}
pub use Rattle.power_bounds.specs.Powers.{AreNotPowered, IsDuring, IsPoweredFit, power_most, power_of, powered_most, PowerStaysAt, PowerStaysDuring, PowerStaysPast, PowerStaysWhenDue}
pub use Rattle.power_bounds.specs.declared.power.PowerBound.{PowerBound}
pub use Rattle.power_bounds.specs.declared.period.Period.{Period}
