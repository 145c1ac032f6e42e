-- What is cited together of this crate and of those below it, passed on from one place. Declares nothing.
pub use Rattle.rule_place.specs.Words.{Act, Allowed, Applies, are_below, AreFewer, AreLeaves, At, base, Bound, broken_at, Choice, choices, Climbs, comes_by, Constraint, constraint_watch, domain_at, domain_before, DomainView, Element, Empty, FailHolds, ForbidsPlace, form_of, gain, goes_in, Group, Hall, has_come, HasPlace, hosted_in, Idle, Image, in_part, Inside, Instance, inventory_of, is_continuous, is_rule, IsBrokenBy, IsClean, IsDisturbed, IsElement, IsEnd, IsHarmless, IsInstance, IsLess, IsLook, IsMachineUnder, IsMember, IsNamed, IsNeeded, IsPlace, IsRegionOf, IsSameMachine, IsSized, IsStill, IsUnusable, keeping, kept_use, leave_climbs, least, leave_of, Levels, Load, Look, machine_count, lost_choices, lowest, MayAnswer, never, no_row, node, Node, node_count, NodeId, Nodes, Nowhere, of_kind, one, Pair, Part, Place, PlaceReason, Places, places_seen, Power, Presence, putting, present_at, reason_kind, ReasonKind, restored, Row, row_at, rule_watch, seen, SetLoad, Sets, sets, setting, Side, Snapshot, stands_on, StandsUnder, state_of, surely, Upto, Usable, usable_watch, vm, Vm, VmId, watch_at, Weight}
unfoldable pub use Rattle.rule_place.specs.Words.{held_at, stage_at, sure, usable_at}
pub use Rattle.rule_place.specs.Allowed.{IsAllowed, IsDue, IsOffHost, MayGo}
pub use Rattle.rule_place.specs.Covers.{forbidden_kinds}
pub use Rattle.rule_place.specs.Dirty.{AreDirtyUpTo, AreNodesDirty, AreSpared, GivesUp, IsNoSooner, IsUntouched}
pub use Rattle.rule_place.specs.Nodes.{needed_watch}
pub use Rattle.rule_place.specs.Shutdowns.{IsAway, IsShutdown, LetsGo}
pub use Rattle.rule_place.specs.declared.shutdowns.Shutdown.{Shutdown}
