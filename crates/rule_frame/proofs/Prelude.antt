-- What proofs of this crate cite together of std, of the crates below and of its definitions, passed on from one place. Declares nothing.
pub use Rattle.base.proofs.Public.{Bool, Contains, IsTrue, List, None, [], add-zero, ap, append-nil, arith, both_ways, cases_eq, cond, eq-eqb, eqb-true, false, false_from_ne_true, false≢true, filter, filter-append, flat_map, get_or, get_or-set_at, get_or-set_other, inl, inr, length, length-set, nat_tests, refl, set, slice_index_or, subst, suc, sym, true, zero, ℕ, ◌++◌, ◌+◌, ◌-◌, ◌<◌, ◌==◌, ◌∙◌, ◌∷◌, ◌≡◌, ◌≢◌, ◌≤◌, ◌⊎◌}
pub use Rattle.cluster.specs.declared.choices.Choice.TheVariants.{Idle as Stay}
pub use Rattle.cluster.specs.declared.choices.Place.{Place}
pub use Rattle.domains.proofs.Public.{contains_filter, contains_here, filter_contains, same_is}
pub use Rattle.domains.specs.SetsBefore.{putting}
pub use Rattle.prop_core.specs.Propagators.{FailHolds}
pub use Rattle.reasons.proofs.Public.{end_is_choice, ends_of_rows}
pub use Rattle.rule_frame.specs.Prelude.{Act, AllClean, AreClean, Choice, Climbs, CutHolds, DomainView, Element, From, Idle, Instance, IsClean, IsCleanUpTo, IsDisturbed, IsElement, IsEnd, IsKept, IsLocal, Levels, Part, Reason, Refutes, RegionView, Row, Sets, Upto, Watch, choices, domain_at, in_part, keeping, no_row, part_past, place_index, row_choices, same_element, sets, setting, starts_from}
