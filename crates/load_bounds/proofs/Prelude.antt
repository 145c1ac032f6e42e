-- What proofs of this crate cite together of what stands below them, passed on from one place. Declares nothing.
pub use Rattle.base.proofs.Public.{Bool, Contains, Contains-get_or, Decides-eqb, IfSome, IsPartitionPoint-from_clause, IsPartitionedBy-leb, List, None, Option, Some, [], ap, append-nil, arith, cases_eq, cases_lt, cond, false, false≢true, filter, flat_map, get_or, get_or_default, inl, inr, leb, leb-true, length, list_any, list_any-append, lt-ltb, nat_le, nat_lt, nat_tests, ne_eqb, not, refl, rules, slice_index_or, subst, suc, sum_by, sum_by-cons, sum_to-le, sum_to-term, sym, take, true, zero, ℕ, ◌&&◌, ◌*◌, ◌++◌, ◌+◌, ◌-◌, ◌<◌, ◌==◌, ◌||◌, ◌∙◌, ◌∷◌, ◌≡◌, ◌≢◌, ◌≤◌, ◌⊎◌}
pub use Rattle.cluster.specs.declared.choices.Place.{Place}
pub use Rattle.domains.proofs.Public.{contains_filter, contains_here, least_of_each, may_by_least, may_each, surely_by_least, surely_each}
pub use Rattle.domains.specs.declared.undo.Lost.TheVariants.{Row as LostRow}
pub use Rattle.profiles.proofs.Public.{all_over, few_once, kept_law, over_once, sum_but_for, sum_whole}
pub use Rattle.reasons.proofs.Public.{end_is_choice, ends_of_rows, setting_room}
pub use Rattle.slices.proofs.Public.{ends_by_duration}
pub use Rattle.load_bounds.specs.Prelude.{Act, Amount, AreMovers, Arrival, At, Choice, DomainView, Element, HasRoom, Idle, Instance, IsMost, IsStanding, Node as TheNode, NodeId, Nowhere, Row, Sets, Vm, Weight, all_nodes, base, capacity_of, choices, comes_by, demand_of, domain_at, gain, has_come, held_at, hosted_in, is_above_none, is_nought, is_steady, least, leave_of, load, lost_choices, machine_count, max_amount, max_capacity, max_held, may, may_wait, most_anywhere, most_kept, never, no_row, no_standing, node, node_count, one, row_choices, same_element, seen, sets, starts_from, state_of, sum_to, sure, surely, usable_at, vm, waits}
