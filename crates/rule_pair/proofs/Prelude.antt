-- What proofs of this crate cite together of std, of the crates below and of its definitions, passed on from one place. Declares nothing.
pub use Rattle.base.proofs.Public.{Bool, IsTrue, List, None, Option, Some, [], and_parts, ap, arith, cases_eq, cases_lt, Contains, copies_at, eq-eqb, eqb-true, false, false≢true, filter, get_or, get_or_default, if◌then◌else◌, inl, inr, length, list_any_more, max, nat_le, ne_eqb, nat_lt, nat_tests, refl, replicate, rules, slice_get, slice_index_or, subst, suc, sym, take, true, unwrap_or, zero, ℕ, ◌&&◌, ◌+◌, ◌<◌, ◌==◌, ◌||◌, ◌∙◌, ◌∷◌, ◌≡◌, ◌≢◌, ◌≤◌, ◌⊎◌}
pub use borrow.Author.Count.{below_more}
pub use Rattle.catalogue.proofs.Public.{below_parts}
pub use Rattle.domains.proofs.Public.{contains_here, least_of_each, same_is, surely_each}
pub use Rattle.standings.proofs.Public.{level_below, level_top, present_law}
pub use Rattle.reasons.proofs.Public.{end_is_choice, ends_of_rows, some_end}
pub use Rattle.rule_constraint.proofs.Public.{and-true, arrival, arrived, each_member, each_more, kept_applies, numbers, of_one, other-vm, own_present, row_end, same_present, vm_or}
pub use Rattle.rule_frame.proofs.Public.{first_of, last_of, later_in, narrowed_is_fewer}
pub use Rattle.slices.proofs.Public.{part_listed, sound_form}
pub use Rattle.rule_pair.specs.Longest.{nobody}
pub use Rattle.rule_pair.specs.Prelude.{Applies, AreOrdered, Bound, Choice, Constraint, DomainView, Empty, Group, Hall, HasPair, Instance, IsBrokenBy, IsInPart, IsLate, IsPair, IsStanding, IsTold, KeepsOff, Load, Pair, Place, Power, ReasonKind, SetLoad, Snapshot, Standing, StandsWithin, Usable, VmId, broken_at, choices, least, leave_of, machine_count, no_row, node_count, pair_kinds, part_of, seen, separation_seen, sets, stays, sure, watch_at}
