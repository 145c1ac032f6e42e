-- What proofs of this crate cite together of what stands below them, passed on from one place. Declares nothing.
pub use Rattle.base.proofs.Public.{[], All, All-append, All-contains, All-nil, All-push, All-weaker, ap, append-nil, arith, Bool, both_ways, cases_eq, cases_lt, cond, Contains, Contains-append_right, Decides-eqb, drop, eq-eqb, false, false≢true, filter, filter-append, flat_map, flat_map-append, get_or, get_or-drop, get_or-map, get_or-map-range_with_len, get_or-take, get_or_default, get_or_past, iff_false, IfSome, inl, inr, is_some, IsTrue, le-ltb, length, length-drop, length-map, length-map-range_with_len, length-take-le, List, list_any_at, lower-le, lt-ltb, ltb-true, map, map-range_with_len_more, max, nat_le, nat_lt, nat_tests, ne_eqb, None, not, Option, range_with_len, refl, slice_get_cases, slice_index_or, Some, subst, suc, sum_to-change, sum_to-none, sum_to-zero, sym, take, true, unwrap_or, zero, ℕ, ◌&&◌, ◌*◌, ◌++◌, ◌+◌, ◌-◌, ◌<◌, ◌==◌, ◌^◌, ◌∙◌, ◌∷◌, ◌≡◌, ◌≢◌, ◌≤◌, ◌⊎◌}
pub use borrow.Author.Count.{below_more}
pub use Rattle.catalogue.proofs.Public.{use_of_le}
pub use Rattle.cluster.proofs.Public.{is_online-lt, IsListed-element_at}
pub use Rattle.cluster.specs.declared.{choices.Choice.TheVariants.Idle, choices.Place.Place, states.State.TheVariants.Ready, states.State.TheVariants.Running, states.State.TheVariants.Sleeping}
pub use Rattle.domains.proofs.Public.{filter_is_fewer, least_of_each, may_by_least, surely_by_least}
pub use Rattle.reasons.proofs.Public.{start_is_legal}
pub use Rattle.slices.proofs.Public.{each_member, ends_by_duration, held_is_small, legal_acts_last, legal_is_plan, member_at}
pub use Rattle.relax.specs.Prelude.{Act, Acting, acting_slices, action_at, all_nodes, Allocate, Amount, AreAllOut, AreBothActing, AreLegal, AreScattered, At, Boot, capacity_of, Choice, choices, choices_of, Climbs, ComesAfter, Demand, domain_at, DomainView, duration_of, Element, element_at, element_count, goes_in, Gone, has_node, HasOutside, host_is_online, hosted_in, idle_slices, Image, in_part, Init, Instance, inventory_of, is_above_none, is_element, is_nought, is_raised, IsElement, IsFirstFrom, IsInPart, IsInstance, IsMember, IsOnly, IsPlanOf, IsRowAt, IsSized, IsWithin, Kill, Kind, least, LegalStays, lower, lowest, machine_count, max_capacity, max_held, Migrate, no_row, node, Node, node_count, NodeId, Nodes, nodes_of, NodeSet, Nowhere, one, option_choices, out_of_part, parted, place_index, powered_at, Presence, RegionView, Resume, room, Row, row_choices, rows_of, same_element, seen, Sets, sets, Shutdown, Slice, Slices, Snapshot, Stage, starts_from, State, state_in, state_of, staying, sum_to, surely, Suspend, To, usable_at, Use, Vm, vm, VmId, wanted_state, weigh, Weight, weight_of}
unfoldable pub use Rattle.relax.specs.Prelude.{action_duration, end_of, held_at, held_by, is_legal, kind_duration, kind_of, slices_by, slices_of, stage_at, start_sets, sure}
