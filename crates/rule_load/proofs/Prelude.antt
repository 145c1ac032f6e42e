-- What proofs of this crate cite together of std, of the crates below and of its definitions, passed on from one place. Declares nothing.
pub use Rattle.base.proofs.Public.{Bool, Contains, Decides-eqb, IsPartitionPoint-from_clause, IsPartitionedBy-leb, List, None, Option, Some, [], and_parts, ap, arith, cases_eq, cases_lt, cond, false, false≢true, filter, get_or, get_or_default, inl, inr, leb, leb-true, length, lt-ltb, min, nat_le, nat_lt, nat_tests, ne_eqb, refl, rules, slice_index_or, subst, suc, sum_to-le, sym, true, unwrap_or, zero, ℕ, ◌&&◌, ◌+◌, ◌-◌, ◌<◌, ◌∙◌, ◌∷◌, ◌≡◌, ◌≢◌, ◌≤◌, ◌⊎◌}
pub use Rattle.cluster.specs.declared.choices.Place.{Place}
pub use Rattle.domains.proofs.Public.{contains_filter, contains_here, least_of_each, lowest_before, restored_is_both, same_is, surely_each}
pub use Rattle.domains.specs.SetsBefore.{sets_before}
pub use Rattle.profiles.proofs.Public.{firsts_fewer, kept_law, level_below, level_top, movers_told, near_put}
pub use Rattle.reasons.proofs.Public.{end_is_choice, ends_of_rows, machine_change, node_change, setting_agrees, setting_total}
pub use Rattle.rule_frame.proofs.Public.{first_of, last_of, narrowed_is_fewer, no_less, unseen_still}
pub use Rattle.rule_load.specs.Prelude.{Act, Amount, AreFewer, AreFirstAt, AreFirsts, AreKept, AreKeptAt, AreListed, AreMost, AreMovers, AreNearAt, AreSpared, AreStanding, Arrival, At, Before, CameBefore, Change, Choice, Climbs, Cut, DomainView, Element, FixedView, From, Grows, HasRoom, HaveCome, Idle, Instance, IsCacheTold, IsDisturbed, IsDuring, IsElement, IsEnd, IsFreeDuring, IsFreeOf, IsFreePast, IsLess, IsListedBy, IsListedFor, IsLook, IsMachineLess, IsMost, IsNarrowed, IsNear, IsOrder, IsOverload, IsOverloaded, IsPut, IsStanding, IsStill, KeepsHost, Levels, Lost, MachinesFit, MostUse, Node as TheNode, NodeId, NodeSet, Nodes, NodesFit, Nowhere, Period, RegionView, Row, Sets, Standing, StartNoSooner, Tables, Vm, VmId, Weight, all_nodes, base, cache_of, capacity_of, choices, comes_by, domain_at, domain_before, gain, goes_in, has_come, has_node, have_come, held_at, hosted_in, in_part, is_steady, kept_use, least, leave_climbs, leave_of, level_at, list_at, load, load_scope, load_watch, lost_choices, lower_option, lowest, machine_count, may_wait, most_anywhere, most_kept, most_use, never, no_row, no_standing, node, node_count, one, one_at, restored, same_element, seen, sets, setting, state_of, sum_to, sure, vm, watch_at}
