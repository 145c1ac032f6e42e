-- What is cited together of this crate and of those below it, passed on from one place. Declares nothing.
pub use Rattle.rule_frame.specs.Words.{Act, all_nodes, Allowed, Apart, Bounded, BreaksGroup, broken_at, Choice, choices, Climbs, constraint_watch, CutHolds, domain_at, DomainView, Element, ExceedsAmount, ExceedsPower, FailHolds, Form, form_of, FormForbidsPair, FormForbidsPlace, From, HasPair, HasPlace, Idle, in_part, Instance, InTurn, IsBroken, IsClean, IsElement, IsEnd, IsFree, IsFreeOf, IsGroup, IsInPart, IsLocal, IsLook, IsMember, IsOverload, IsOverloaded, IsPartWithin, IsPower, IsQuietKind, IsRegionOf, IsSetLoad, IsSized, IsUnseen, keeping, load_on, machine_count, max_nodes, MayAnswer, no_row, node, Node, node_count, Nodes, NoneBroken, nothing, one, Ordered, Part, place_index, Powered, Reason, Refutes, RegionView, Row, row_choices, rule_watch, same_element, Scope, scope_of, seen, Sets, sets, setting, Settled, Snapshot, starts_from, Together, Upto, vm, Vm, Watch, watch_of}
unfoldable pub use Rattle.rule_frame.specs.Words.{has_node, sure}
pub use Rattle.rule_frame.specs.Asked.{AllClean}
pub use Rattle.rule_frame.specs.Caches.{IsCacheFor}
pub use Rattle.rule_frame.specs.Changes.{AreClean, IsDisturbed, IsKept, IsLess, IsCleanUpTo, IsStill, StaysClean}
pub use Rattle.rule_frame.specs.Laws.{StillClean, UnseenStill}
pub use Rattle.rule_frame.specs.Levels.{Levels}
pub use Rattle.rule_frame.specs.Parts.{part_past, start_past}
