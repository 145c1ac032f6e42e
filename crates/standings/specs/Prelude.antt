-- What is cited together of this crate and of those below it, passed on from one place. Declares nothing.
pub use Rattle.relax.specs.Prelude.{acting_slices, AreFewer, choices, Climbs, domain_at, domain_before, DomainView, goes_in, hosted_in, idle_seen, idle_slices, in_part, Instance, is_online, is_place, is_raised, IsElement, IsFirstBroken, IsLeastAtEnds, IsPair, IsSized, IsWeight, least, load, lost_choices, lower_option, lowest, machine_count, machine_kind, max_action, max_amount, may, name_of, no_row, node, node_count, Nodes, one, place_index, Refutes, RegionView, restored, room, row_choices, runs_elsewhere, same_element, seen, Sets, sets, setting, sight_at, Snapshot, stage_from, stage_of, starts_from, state_of, stays, sum_to, surely, usable_of, vm, wanted_state, weigh, weight_of}
unfoldable pub use Rattle.relax.specs.Prelude.{action_duration, capacity_of, demand_of, duration_of, end_of, held_at, held_by, kind_duration, kind_of, slices_by, slices_of, stage_at, sure, usable_at}
pub use Rattle.cluster.specs.declared.{choices.Choice.Choice, choices.Choice.TheVariants.Act, choices.Place.TheVariants.At, choices.Place.TheVariants.Nowhere, ids.Element.Element, ids.Element.TheVariants.Node, ids.Element.TheVariants.Vm, ids.NodeId.NodeId, kinds.Kind.Kind, kinds.Kind.TheVariants.Allocate, kinds.Kind.TheVariants.Boot, kinds.Kind.TheVariants.Forge, kinds.Kind.TheVariants.Kill, kinds.Kind.TheVariants.Migrate, kinds.Kind.TheVariants.Resume, kinds.Kind.TheVariants.Shutdown, kinds.Kind.TheVariants.Suspend, states.State.State, states.State.TheVariants.Gone, states.State.TheVariants.Init}
pub use Rattle.catalogue.specs.declared.targets.{Target.TheVariants.Killed, Target.TheVariants.Offline, Target.TheVariants.Online, Target.TheVariants.Ready, Target.TheVariants.Running, Target.TheVariants.Sleeping, Wish.Wish, Wish.TheVariants.Clash, Wish.TheVariants.Keep, Wish.TheVariants.To}
pub use Rattle.domains.specs.declared.{parts.Part.TheVariants.From, parts.Row.Row, undo.Lost.Lost, view.Lens.Lens}
pub use Rattle.slices.specs.declared.{slice.Slices.Slices, slice.Weight.Weight, slice.Weight.TheVariants.Amount, slice.Weight.TheVariants.Image, slice.Weight.TheVariants.Presence, slice.What.TheVariants.Demand, slice.What.TheVariants.Use, stage.Stage.Stage}
pub use Rattle.standings.specs.{Ends.leave_climbs, Hosts.HostIs, Laws.BeforeLaw, Laws.FewerLaw, Laws.GrowLaw, Laws.KeptLaw, Laws.LoadLaw, Laws.PresencesLaw, Laws.PresentLaw, Leaves.AreLeaves, Levels.IsLog, Levels.level_at, Levels.Levels, Levels.olders, Standings.base, Standings.brought, Standings.comes_by, Standings.gain, Standings.had_there, Standings.has_come, Standings.have_come, Standings.IsStanding, Standings.kept_until, Standings.kept_use, Standings.leave_of, Standings.never, Standings.weight_if, Tables.AreStanding, Tables.AreStandingUpTo, Tables.no_standing, Tables.Tables}
pub use Rattle.standings.specs.declared.{levels.Entry.Entry, levels.Entry.TheVariants.Mark, levels.Entry.TheVariants.Undo, leaves.Leaves.Leaves, numbers.Arrival.Arrival, numbers.Standing.Standing}
