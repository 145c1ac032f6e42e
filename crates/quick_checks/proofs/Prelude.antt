-- What proofs of this crate cite together of what stands below them, passed on from one place. Declares nothing.
pub use Rattle.base.proofs.Public.{[], All, and_parts, ap, arith, Bool, cases_eq, cases_lt, eq-eqb, get_or, get_or-map-range_with_len, get_or_default, inl, inr, IsTrue, length, length-map, length-map-range_with_len, List, list_any_at, ltb-true, map, nat_lt, nat_tests, None, Option, range_with_len, refl, rules, slice_index_or, Some, suc, sym, true, zero, ℕ, ◌+◌, ◌<◌, ◌∙◌, ◌∷◌, ◌≡◌, ◌≤◌, ◌==◌, ◌&&◌, false, filter, ◌≢◌, ◌*◌, sum_to-change, sum_to-le, sum_to-same}
pub use Rattle.cluster.specs.declared.ids.Element.{Element}
pub use Rattle.domains.proofs.Public.{filter_is_fewer, least_grows, same_is}
pub use Rattle.domains.specs.Prelude.{keeping, same_element}
pub use Rattle.standings.proofs.Public.{kept_law, present_law}
pub use Rattle.quick_checks.specs.Prelude.{Amount, AreScattered, BoundsAmount, Choice, choices, has_node, held_at, Instance, IsInstance, IsOneIn, IsOverload, IsStanding, IsTally, IsWeighed, kept_use, least, lower, lowest, machine_count, max_held, never, node_count, Nodes, nodes_of, NodeSet, one, Presence, present_at, room, seen, Sets, sets, Snapshot, Standing, sum_to, sure, surely, Tally, total, vm, VmId, Weighed, Weight}
