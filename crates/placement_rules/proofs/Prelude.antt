-- What proofs of this crate cite together of std, of the crates below and of its definitions, passed on from one place. Declares nothing.
pub use Rattle.base.proofs.Public.{Any, Bool, IfSome, IsTrue, List, None, Option, Some, [], and_from, and_parts, ap, arith, both_ways, cases_Bool, cases_eq, cases_lt, copies_at, eq-eqb, eqb-true, false, false_from_ne_true, false≢true, get_or, get_or-map, get_or-range_with_len, get_or_past, get_or_read, iff_false, if◌then◌else◌, inl, inr, le-ltb, length, length-map, length-range_with_len, list_all, list_any_more, lt-ltb, ltb-true, map, nat_lt, nat_tests, or_cases, or_left, or_right, range_with_len, refl, slice_get, slice_get_cases, slice_get_read, slice_index_or, subst, suc, sym, take, take_all, true, true_from_ne_false, zero, ℕ, ◌&&◌, ◌*◌, ◌+◌, ◌<◌, ◌==◌, ◌||◌, ◌↔◌, ◌∙◌, ◌∷◌, ◌≡◌, ◌≢◌, ◌≤◌, ◌⊎◌}
pub use Rattle.catalogue.proofs.Public.{below_parts}
pub use Rattle.slices.proofs.Public.{part_listed}
pub use Rattle.placement_rules.specs.Prelude.{Acting, AreAbsent, AreApart, AreGrouped, AreNoted, AreReached, AreWithin, Between, Each, FromOthers, Held, Holding, Holds, Instance, IsAllowed, IsClaim, IsHeldWithin, IsHoldingOf, IsMember, Labels, NodeSet, Nodes, Snapshot, TakeTurns, VmId, choices_of, has_machine, has_node, is_in, is_member, is_on, label_on, machine_count, max_nodes, node_count, one, places_seen, snapshot_at, split_labels, sum_to}
