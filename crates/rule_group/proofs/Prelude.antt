-- What proofs of this crate cite together of std, of the crates below and of its definitions, passed on from one place. Declares nothing.
pub use Rattle.base.proofs.Public.{if◌then◌else◌, All, all_of, and_parts, ap, arith, Bool, both_ways, cases_Bool, cases_eq, cases_lt, cond, Contains, eq-eqb, eqb-true, false, false≢true, get_or, get_or-map, get_or-map-range_with_len, get_or_default, get_or_past, inl, inr, IsTrue, leb-true, length, length-map, length-map-range_with_len, List, list_any_at, ltb-true, map, max, min, nat_le, nat_lt, nat_tests, None, not, not-false, not-true, Option, or_cases, range_with_len, refl, rules, slice_get, slice_index_or, Some, subst, suc, sym, true, zero, [], ℕ, ◌&&◌, ◌+◌, ◌-◌, ◌<◌, ◌==◌, ◌||◌, ◌∙◌, ◌∷◌, ◌≡◌, ◌≢◌, ◌≤◌, ◌⊎◌}
pub use borrow.Author.Count.{below_more}
pub use Rattle.domains.proofs.Public.{surely_each}
pub use Rattle.standings.proofs.Public.{kept_law}
pub use Rattle.reasons.proofs.Public.{end_is_choice, ends_of_rows, setting_sets, some_end}
pub use Rattle.rule_constraint.proofs.Public.{arrival, arrived, each_member, each_more, kept_applies, numbers, of_one, other-vm, row_end, vm_or}
pub use Rattle.slices.proofs.Public.{member_at, present_somewhere, sound_form}
