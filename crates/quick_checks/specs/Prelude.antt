-- What is cited together of this crate and of those below it, passed on from one place. Declares nothing.
pub use Rattle.relax.specs.Prelude.{all_nodes, Amount, Applies, AreLegal, AreScattered, At, Choice, choices, ForbidsPair, ForbidsPlace, in_part, Instance, inventory_of, is_rule, IsElement, IsGroup, IsInPart, IsInstance, IsMember, IsOneIn, IsOverload, IsPair, IsPlace, IsSetLoad, IsSized, IsWeight, least, lower, lower_option, lowest, machine_count, max_held, no_row, node_count, NodeId, Nodes, nodes_of, NodeSet, one, Presence, present_at, Refutes, RegionView, room, seen, Separates, separation_seen, Sets, sets, Snapshot, state_of, sum_to, surely, total, Use, vm, VmId, wanted_state, Weight, weight_of}
unfoldable pub use Rattle.relax.specs.Prelude.{has_node, held_at, sure}
pub use Rattle.standings.specs.Prelude.{has_come, IsStanding, kept_use, never}
pub use Rattle.standings.specs.declared.numbers.Standing.{Standing}
pub use Rattle.quick_checks.specs.{Known.AreKnown, Posts.GoesInto, Posts.IsPosted, Tallies.BoundsAmount, Tallies.IsTally, Weighed.IsWeighed}
pub use Rattle.quick_checks.specs.declared.{tally.Tally.Tally, weighed.Weighed.Weighed}
