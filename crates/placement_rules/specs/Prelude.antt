-- What is cited together of this crate and of those below it, passed on from one place. Declares nothing.
pub use Rattle.slices.specs.Prelude.{amount_in, applies, AreAbsent, AreAllowed, AreApart, AreGrouped, AreWithin, Between, Choices, choices_of, continuous_at, count_in, Each, Form, form_matters, form_seen, FromOthers, group_sets, groups_seen, Holds, image_in, Instance, is_in, is_member, IsElement, IsHeldWithin, IsHoldingOf, IsInPart, IsKept, IsMember, IsOffLimits, IsPlanOf, IsSound, IsWeight, KeepsAllAt, load, machine_count, max_amount, max_held, max_nodes, node_count, Nodes, one, places_seen, powered_nodes, separated, separation_seen, Snapshot, snapshot_at, stands_on, start_of, sum_to, TakeTurns, total}
unfoldable pub use Rattle.slices.specs.Prelude.{capacity_of, has_machine, has_node}
pub use Rattle.cluster.specs.declared.ids.VmId.{VmId}
pub use Rattle.cluster.specs.declared.sets.NodeSet.{NodeSet}
pub use Rattle.slices.specs.declared.holding.Held.{Held}
pub use Rattle.slices.specs.declared.holding.Holding.{Holding}
pub use Rattle.slices.specs.declared.stage.Progress.TheVariants.{Acting, Started, Unended}
pub use Rattle.placement_rules.specs.HoldsAt.{HoldsAt}
pub use Rattle.placement_rules.specs.Labels.{AreNoted, is_on, IsClaim, label_on, Labels, split_labels}
pub use Rattle.placement_rules.specs.Places.{AreReached, IsAllowed}
