-- What is cited together of this crate and of those below it, passed on from one place. Declares nothing.
pub use Rattle.load_bounds.specs.Words.{Act, acting_slices, all_nodes, Allocate, Amount, AreFirstAt, AreMachines, AreMovers, AreStanding, Arrival, At, base, Boot, brought, Choice, choices, Climbs, comes_by, domain_at, DomainView, Element, FixedView, Forge, gain, Gone, had_there, has_come, have_come, hosted_in, Idle, idle_slices, in_part, Init, Inside, Instance, is_above_none, is_nought, is_online, IsElement, IsFixed, IsOverload, IsRowEnd, IsSized, IsStanding, kept_until, kept_use, Kill, Kind, least, leave_of, load, lost_choices, machine_count, max_amount, max_capacity, max_held, max_machines, max_nodes, may, Migrate, never, no_row, no_standing, Node, node, node_count, NodeBoot, NodeId, Nodes, NodeShutdown, Nowhere, on_side, one, Ready, RegionView, Resume, room, Row, row_choices, Running, same_element, seen, sets, Sets, setting, Shutdown, Sleeping, Slices, Snapshot, Stage, stage_from, Standing, starts_from, State, state_of, sum_to, surely, Suspend, Upto, use_of, Vm, vm, weigh, Weight, weight_if}
unfoldable pub use Rattle.load_bounds.specs.Words.{action_duration, capacity_of, demand_of, end_of, held_at, held_by, kind_of, slices_by, slices_of, stage_at, sure, usable_at}
pub use Rattle.load_bounds.specs.HoldOn.{GoesOn, HoldsOn, StayersHoldOn}
pub use Rattle.load_bounds.specs.KeptAt.{AreKeptAt, AreNearAt}
pub use Rattle.load_bounds.specs.NodeRooms.{always, AreNodes, AreRooms, AreWholeRooms, IsListedOrLasts, IsWholeRoom, IsWidened, IsWidenedBy, Lasts, no_room_at_all, RoomsView}
pub use Rattle.load_bounds.specs.Parts.{HasLeft, IsMostBrought, IsMostLeft, left_over, StartsPast}
pub use Rattle.load_bounds.specs.Periods.{AreMost, HasRoom, IsAtStake, IsDuring, IsMost, IsMostUnder, MachinesFit, most_kept, NodesFit}
pub use Rattle.load_bounds.specs.Totals.{is_steady, may_wait, most_anywhere, waits}
pub use Rattle.load_bounds.specs.declared.period.Period.{Period}
