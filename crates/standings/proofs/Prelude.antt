-- What proofs of this crate cite together of what stands below them, passed on from one place. Declares nothing.
pub use Rattle.base.proofs.Public.{[], ap, arith, Bool, cases_eq, cases_lt, cond, Contains, Decides-eqb, false, false≢true, filter, flat_map, get_or, get_or-append_right, get_or-append_seam, get_or-set_other, get_or-set_same, get_or_append_left, inl, inr, length, length-append, length-reverse, length-set, List, lt-ltb, ltb-true, max, min, nat_le, nat_lt, nat_tests, ne_eqb, None, not, Option, refl, reverse, reverse-append, rules, slice_index_or, slice_set, Some, subst, suc, sum_to-same, sym, true, unwrap_or, zero, ℕ, ◌&&◌, ◌++◌, ◌+◌, ◌-◌, ◌<◌, ◌==◌, ◌∙◌, ◌∷◌, ◌≡◌, ◌≢◌, ◌≤◌, ◌⊎◌}
pub use Rattle.cluster.specs.declared.{choices.Choice.TheVariants.Idle, choices.Place.Place, states.State.TheVariants.Running}
pub use Rattle.domains.proofs.Public.{contains_here, filter_is_fewer, least_grows, least_of_each, lowest_before, same_is, seen_by_rows, surely_each, surely_stays}
pub use Rattle.domains.specs.SetsBefore.{putting, sets_before}
pub use Rattle.reasons.proofs.Public.{ends_of_rows}
pub use Rattle.relax.proofs.Public.{least_from}
pub use Rattle.slices.proofs.Public.{ends_by_duration}
pub use Rattle.standings.specs.Prelude.{Act, acting_slices, Allocate, Amount, AreFewer, AreLeaves, AreStanding, AreStandingUpTo, Arrival, At, base, BeforeLaw, Boot, brought, Choice, choices, Clash, Climbs, comes_by, Demand, domain_at, domain_before, DomainView, duration_of, Element, Entry, FewerLaw, Forge, gain, Gone, GrowLaw, had_there, has_come, have_come, hosted_in, HostIs, idle_seen, idle_slices, Image, Init, Instance, is_online, is_place, is_raised, IsLog, IsStanding, Keep, kept_until, kept_use, KeptLaw, Kill, Killed, Kind, least, leave_of, Leaves, Lens, level_at, Levels, LoadLaw, Lost, lost_choices, lower_option, lowest, machine_count, machine_kind, Mark, max_action, Migrate, never, no_row, no_standing, Node, node, node_count, NodeId, Nowhere, Offline, olders, one, Online, place_index, Presence, PresencesLaw, PresentLaw, Ready, RegionView, restored, Resume, Row, row_choices, same_element, seen, Sets, sets, Shutdown, sight_at, Sleeping, Slices, Stage, stage_from, Standing, starts_from, State, state_of, stays, surely, Suspend, To, Undo, Use, Vm, vm, wanted_state, weigh, Weight, weight_if, weight_of, Wish}
unfoldable pub use Rattle.standings.specs.Prelude.{action_duration, end_of, held_at, held_by, kind_duration, kind_of, slices_by, slices_of, stage_at, sure, usable_at}
