-- What definitions of this crate cite of those below it, passed on from one place. Declares nothing.
pub use Rattle.reasons.specs.Prelude.{IsRowEnd}
pub use Rattle.relax.specs.Prelude.{all_nodes, choices, Climbs, domain_at, DomainView, in_part, Instance, is_above_none, is_nought, IsElement, IsEnd, IsOverload, IsSized, machine_count, max_capacity, max_held, max_machines, max_nodes, no_row, node, node_count, Nodes, on_side, one, RegionView, row_choices, same_element, seen, Sets, sets, setting, Snapshot, starts_from, use_of, vm}
unfoldable pub use Rattle.relax.specs.Prelude.{sure}
pub use Rattle.profiles.specs.Prelude.{acting_slices, AreFirstAt, AreMachines, AreMovers, AreStanding, base, brought, comes_by, FixedView, gain, had_there, has_come, have_come, hosted_in, idle_slices, is_online, IsFixed, IsStanding, kept_until, kept_use, least, leave_of, load, lost_choices, max_amount, may, never, no_standing, room, stage_from, state_of, sum_to, surely, weigh, weight_if}
unfoldable pub use Rattle.profiles.specs.Prelude.{action_duration, capacity_of, demand_of, end_of, held_at, held_by, kind_of, slices_by, slices_of, stage_at, usable_at}
pub use Rattle.cluster.specs.declared.choices.Choice.{Choice}
pub use Rattle.cluster.specs.declared.choices.Choice.TheVariants.{Act, Idle}
pub use Rattle.cluster.specs.declared.choices.Place.TheVariants.{At, Nowhere}
pub use Rattle.cluster.specs.declared.ids.Element.{Element}
pub use Rattle.cluster.specs.declared.ids.Element.TheVariants.{Node, Node as TheNode, Vm}
pub use Rattle.cluster.specs.declared.ids.NodeId.{NodeId}
pub use Rattle.cluster.specs.declared.kinds.Kind.{Kind}
pub use Rattle.cluster.specs.declared.kinds.Kind.TheVariants.{Allocate, Boot, Forge, Kill, Migrate, NodeBoot, NodeShutdown, Resume, Shutdown, Suspend}
pub use Rattle.cluster.specs.declared.states.State.{State}
pub use Rattle.cluster.specs.declared.states.State.TheVariants.{Gone, Init, Ready, Running, Sleeping}
pub use Rattle.domains.specs.declared.parts.Part.TheVariants.{Upto}
pub use Rattle.domains.specs.declared.parts.Row.{Row}
pub use Rattle.domains.specs.declared.parts.Side.TheVariants.{Inside}
pub use Rattle.slices.specs.declared.slice.Slices.{Slices}
pub use Rattle.slices.specs.declared.slice.Weight.{Weight}
pub use Rattle.slices.specs.declared.slice.Weight.TheVariants.{Amount}
pub use Rattle.slices.specs.declared.stage.Stage.{Stage}
pub use Rattle.standings.specs.declared.numbers.Arrival.{Arrival}
pub use Rattle.standings.specs.declared.numbers.Standing.{Standing}
