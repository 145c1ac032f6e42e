-- What is cited together of this crate and of those below it, passed on from one place. Declares nothing.
pub use Rattle.rule_constraint.specs.Words.{Act, actions_of, AllClean, Allowed, Apart, AreFewer, AreLeaves, AreMovers, Arrival, At, base, Between, Bounded, broken_at, Choice, choices, Climbs, comes_by, Constraint, constraint_watch, DomainView, Each, Element, FailHolds, ForbidsPlace, Form, form_of, form_seen, goes_in, has_come, have_come, hosted_in, if_so, in_part, Instance, InTurn, is_continuous, is_member, IsCacheFor, IsClean, IsDisturbed, IsElement, IsEnd, IsInPart, IsLocal, IsLook, IsMember, IsQuietKind, IsSized, IsStanding, IsStill, IsUnseen, least, leave_of, Levels, machine_count, max_amount, MayAnswer, no_row, node, Node, node_count, NodeId, Nodes, NodeSet, nothing, Nowhere, one, Ordered, Powered, presences_of, present_at, ReasonKind, Row, row_at, rule_watch, Scope, scope_of, Separates, Separation, Sets, sets, setting, Settled, Snapshot, Standing, stands_on, StaysClean, StandsUnder, state_of, sum_to, Together, unit_of, Upto, usable_watch, vm, Vm, VmId, Watch, watch_of}
unfoldable pub use Rattle.rule_constraint.specs.Words.{has_node, held_at, sure, usable_at}
pub use Rattle.rule_constraint.specs.Broken.{broken_by}
pub use Rattle.rule_constraint.specs.Given.{IsBrokenBy, kind_of, reason_kind}
pub use Rattle.rule_constraint.specs.Indexes.{AreLooking, AreDirty, HasList, IsAdded, IsIndexOf, IsListed, IsPut, Lists}
pub use Rattle.rule_constraint.specs.Quiet.{kinds_are_quiet, watches_are_local}
pub use Rattle.rule_constraint.specs.Watches.{choose, IsHarmless, IsSpared, kept_watch, no_watch, passes, watch_at, watch_count}
