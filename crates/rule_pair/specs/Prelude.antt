-- What is cited together of this crate and of those below it, passed on from one place. Declares nothing.
pub use Rattle.relax.specs.Prelude.{Applies, AreFewer, domain_before, ForbidsPair, surely}
pub use Rattle.closing.specs.Prelude.{are_below, FromOthers, inventory_of, is_continuous, is_rule, IsMetWith, separated, separation_seen}
pub use Rattle.standings.specs.Prelude.{AreStanding, gain, have_come, IsPair, kept_use, leave_climbs, level_at, lowest, never, no_standing, stays, Tables}
pub use Rattle.rule_frame.specs.Prelude.{domain_at, HasPair, IsDisturbed, keeping, Levels, max_nodes, place_index, Refutes, same_element, seen}
pub use Rattle.rule_constraint.specs.Prelude.{Apart, Arrival, base, Between, broken_at, choices, Climbs, comes_by, constraint_watch, DomainView, Each, FailHolds, form_of, has_come, hosted_in, in_part, Instance, is_member, IsBrokenBy, IsClean, IsElement, IsEnd, IsIndexOf, IsInPart, IsLook, IsMember, IsSized, IsStanding, least, leave_of, Lists, machine_count, no_row, node_count, one, present_at, reason_kind, row_at, rule_watch, Separates, Separation, Sets, sets, setting, Snapshot, state_of, vm, watch_at}
unfoldable pub use Rattle.rule_constraint.specs.Prelude.{sure}
unfoldable pub use Rattle.closing.specs.Prelude.{has_machine}
pub use Rattle.cluster.specs.declared.choices.Choice.{Choice}
pub use Rattle.cluster.specs.declared.choices.Choice.TheVariants.{Act, Idle}
pub use Rattle.cluster.specs.declared.choices.Place.TheVariants.{At, Nowhere}
pub use Rattle.cluster.specs.declared.ids.Element.{Element}
pub use Rattle.cluster.specs.declared.ids.Element.TheVariants.{Vm}
pub use Rattle.cluster.specs.declared.ids.VmId.{VmId}
pub use Rattle.catalogue.specs.declared.constraint.Constraint.{Constraint}
pub use Rattle.domains.specs.SetsBefore.{putting}
pub use Rattle.domains.specs.declared.parts.Row.{Row}
pub use Rattle.slices.specs.declared.slice.Weight.TheVariants.{Presence}
pub use Rattle.reasons.specs.declared.reason.ReasonKind.{ReasonKind}
pub use Rattle.reasons.specs.declared.reason.ReasonKind.TheVariants.{Bound, Empty, Group, Hall, Load, Pair, Place, Power, SetLoad, Usable}
pub use Rattle.standings.specs.declared.numbers.Standing.{Standing}
pub use Rattle.rule_constraint.specs.Broken.{of_kind}
pub use Rattle.rule_pair.specs.Apart.{AreClear, class_of, ComesLate, HasPosts, IsAt, IsLate, IsTold, KeepsClear, KeepsOff, OnClear, part_of}
pub use Rattle.rule_pair.specs.Covers.{pair_kinds}
pub use Rattle.machine_bounds.specs.Prelude.{AreEnds, AreEnough, AreGone, HaveBits, IsKnown}
pub use Rattle.rule_pair.specs.Kept.{AreKept, AreRight, cache_of, StandsIn}
pub use Rattle.rule_pair.specs.Longest.{AreLonger, AreOrdered, IsOrdered, of_others, told_until}
pub use Rattle.rule_pair.specs.Reach.{AreStayEnds, AreUntils, IsLateOrKnown}
pub use Rattle.rule_pair.specs.Stays.{StandsWithin}
pub use Rattle.rule_pair.specs.Twins.{HasTwin, IsTwin, StandsFor}
pub use Rattle.rule_pair.specs.Unmoved.{IsUnmoved}
pub use Rattle.rule_pair.specs.declared.clear.Seen.{Seen}
pub use Rattle.rule_pair.specs.declared.clear.Seen.TheVariants.{Clear, Doubtful, Unknown}
pub use Rattle.rule_pair.specs.declared.longest.Longest.{Longest}
pub use Rattle.rule_pair.specs.declared.posts.Posts.{Posts}
pub use Rattle.machine_bounds.specs.declared.ends.Ends.{Ends}
