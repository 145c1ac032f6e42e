-- What is cited together of this crate and of those below it, passed on from one place. Declares nothing.
pub use Rattle.rule_load.specs.Words.{Act, all_nodes, Amount, AreFewer, AreFirstAt, AreFirsts, AreListed, AreMovers, AreStanding, Arrival, At, base, Before, Change, Choice, choices, Climbs, comes_by, Cut, domain_at, domain_before, DomainView, Element, FailHolds, FixedView, From, gain, goes_in, has_come, HasElement, have_come, hosted_in, Idle, in_part, Instance, IsCacheFor, IsCacheTold, IsDisturbed, IsElement, IsEnd, IsFixed, IsFreeOf, IsLess, IsLook, IsMachineLess, IsNarrowed, IsNear, IsOrder, IsOverload, IsOverloaded, IsPut, IsSized, IsStanding, IsStill, keeping, kept_use, least, leave_climbs, leave_of, level_at, Levels, list_at, load, load_scope, load_watch, Lost, lost_choices, lower_option, lowest, machine_count, max_capacity, MayAnswer, most_use, MostUse, never, no_row, no_standing, node, Node, node_count, NodeId, Nodes, nodes_of, NodeSet, Nowhere, one, RegionView, restored, Row, same_element, seen, Sets, sets, setting, Standing, state_of, sum_to, Tables, total_load_watch, vm, Vm, VmId, Weight}
unfoldable pub use Rattle.rule_load.specs.Words.{capacity_of, has_node, held_at, sure}
pub use Rattle.load_bounds.specs.Prelude.{always, AreKeptAt, AreMost, AreNearAt, AreRooms, HasRoom, is_steady, IsDuring, IsMost, IsWidened, MachinesFit, may_wait, most_anywhere, most_kept, NodesFit, RoomsView, StayersHoldOn}
pub use Rattle.rule_load.specs.Kept.{AreKept, cache_of, Grows, HaveCome, IsListedBy, IsListedFor, StartNoSooner}
pub use Rattle.rule_load.specs.Dirty.{AreSpared, CameBefore, KeepsHost}
pub use Rattle.rule_load.specs.Free.{IsFreeDuring, IsFreePast}
pub use Rattle.rule_load.specs.Quiet.{one_at}
pub use Rattle.rule_load.specs.Watched.{nodes_at, watch_at}
pub use Rattle.load_bounds.specs.declared.period.Period.{Period}
