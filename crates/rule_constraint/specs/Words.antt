-- What definitions of this crate cite of those below it, passed on from one place. Declares nothing.
pub use Rattle.closing.specs.Prelude.{actions_of, Between, Each, form_seen, if_so, is_continuous, is_member, presences_of, present_at, row_at, Separates, Separation, stands_on, StandsUnder, unit_of, usable_watch}
pub use Rattle.profiles.specs.Prelude.{AreLeaves, AreMovers, base, comes_by, goes_in, has_come, have_come, hosted_in, IsStanding, least, leave_of, max_amount, state_of, sum_to}
unfoldable pub use Rattle.profiles.specs.Prelude.{held_at, usable_at}
pub use Rattle.rule_frame.specs.Prelude.{AllClean, Allowed, Apart, Bounded, BreaksGroup, broken_at, choices, Climbs, constraint_watch, DomainView, ExceedsAmount, ExceedsPower, FailHolds, Form, form_of, FormForbidsPair, FormForbidsPlace, HasPair, HasPlace, in_part, Instance, InTurn, IsBroken, IsCacheFor, IsClean, IsDisturbed, IsElement, IsEnd, IsFree, IsGroup, IsInPart, IsLocal, IsLook, IsMember, IsPower, IsQuietKind, IsSetLoad, IsSized, IsStill, IsUnseen, Levels, machine_count, MayAnswer, no_row, node, node_count, Nodes, NoneBroken, nothing, one, Ordered, Powered, rule_watch, Scope, scope_of, Sets, sets, setting, Settled, Snapshot, StaysClean, Together, vm, Watch, watch_of}
unfoldable pub use Rattle.rule_frame.specs.Prelude.{has_node, sure}
pub use Rattle.domains.specs.Prelude.{AreFewer}
pub use Rattle.slices.specs.Holds.{ForbidsPlace}
pub use Rattle.closing.proofs.Public.{constraint_is_local}
pub use Rattle.cluster.specs.declared.choices.Choice.{Choice}
pub use Rattle.cluster.specs.declared.choices.Choice.TheVariants.{Act}
pub use Rattle.cluster.specs.declared.choices.Place.TheVariants.{At, Nowhere}
pub use Rattle.cluster.specs.declared.ids.Element.{Element}
pub use Rattle.cluster.specs.declared.ids.Element.TheVariants.{Node, Node as TheNode, Vm}
pub use Rattle.cluster.specs.declared.ids.NodeId.{NodeId}
pub use Rattle.cluster.specs.declared.ids.VmId.{VmId}
pub use Rattle.cluster.specs.declared.sets.NodeSet.{NodeSet}
pub use Rattle.catalogue.specs.declared.constraint.Constraint.{Constraint}
pub use Rattle.domains.specs.declared.parts.Part.TheVariants.{Upto}
pub use Rattle.domains.specs.declared.parts.Row.{Row}
pub use Rattle.reasons.specs.declared.reason.ReasonKind.{ReasonKind}
pub use Rattle.standings.specs.declared.numbers.Arrival.{Arrival}
pub use Rattle.standings.specs.declared.numbers.Standing.{Standing}
pub use Rattle.reasons.specs.declared.reason.ReasonKind.TheVariants.{Bound, Empty, Group, Hall, Load, Pair, Place, Power, SetLoad, Usable}
