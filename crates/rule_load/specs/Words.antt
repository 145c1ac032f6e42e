-- What definitions of this crate cite of those below it, passed on from one place. Declares nothing.
pub use Rattle.relax.specs.Prelude.{AreListed, nodes_of}
pub use Rattle.closing.specs.Prelude.{HasElement, load_scope, load_watch, max_capacity, total_load_watch}
pub use Rattle.profiles.specs.Prelude.{AreFirstAt, AreFirsts, AreMovers, AreStanding, base, comes_by, FixedView, gain, goes_in, has_come, have_come, hosted_in, IsFixed, IsNear, IsOrder, IsPut, IsStanding, kept_use, least, leave_climbs, leave_of, level_at, list_at, load, lost_choices, lower_option, lowest, most_use, never, no_standing, restored, state_of, sum_to, Tables}
unfoldable pub use Rattle.profiles.specs.Prelude.{capacity_of, held_at}
pub use Rattle.prop_core.specs.Prelude.{AreFewer, domain_before, IsNarrowed}
pub use Rattle.rule_frame.specs.Prelude.{all_nodes, AllClean, choices, Climbs, domain_at, DomainView, FailHolds, in_part, Instance, IsCacheFor, IsDisturbed, IsElement, IsEnd, IsFree, IsFreeOf, IsLess, IsLook, IsOverload, IsOverloaded, IsQuietKind, IsSized, IsStill, keeping, Levels, load_on, machine_count, MayAnswer, no_row, node, node_count, Nodes, one, RegionView, same_element, seen, Sets, sets, setting, Snapshot, vm, Watch}
unfoldable pub use Rattle.rule_frame.specs.Prelude.{has_node, sure}
pub use Rattle.rule_frame.specs.Caches.{Cache, IsCacheTold}
pub use Rattle.rule_frame.specs.Changes.{IsMachineLess}
pub use Rattle.cluster.specs.declared.choices.Choice.{Choice}
pub use Rattle.cluster.specs.declared.choices.Choice.TheVariants.{Act, Idle}
pub use Rattle.cluster.specs.declared.choices.Place.TheVariants.{At, Nowhere}
pub use Rattle.cluster.specs.declared.ids.Element.{Element}
pub use Rattle.cluster.specs.declared.ids.Element.TheVariants.{Node, Node as TheNode, Vm}
pub use Rattle.cluster.specs.declared.ids.NodeId.{NodeId}
pub use Rattle.cluster.specs.declared.ids.VmId.{VmId}
pub use Rattle.cluster.specs.declared.sets.NodeSet.{NodeSet}
pub use Rattle.domains.specs.declared.parts.Change.{Change}
pub use Rattle.domains.specs.declared.parts.Part.TheVariants.{From}
pub use Rattle.domains.specs.declared.parts.Row.{Row}
pub use Rattle.domains.specs.declared.undo.Before.{Before}
pub use Rattle.domains.specs.declared.undo.Lost.{Lost}
pub use Rattle.slices.specs.declared.slice.Weight.{Weight}
pub use Rattle.slices.specs.declared.slice.Weight.TheVariants.{Amount}
pub use Rattle.closing.specs.declared.look.Look.TheVariants.{Cut}
pub use Rattle.profiles.specs.declared.fixed.MostUse.{MostUse}
pub use Rattle.standings.specs.declared.numbers.Arrival.{Arrival}
pub use Rattle.standings.specs.declared.numbers.Standing.{Standing}
pub use Rattle.reasons.specs.declared.reason.ReasonKind.{ReasonKind}
pub use Rattle.reasons.specs.declared.reason.ReasonKind.TheVariants.{Bound, Empty, Group, Hall, Load, Pair, Place, Power, SetLoad, Usable}
