-- What proofs of this crate cite together of std, of the crates below and of its definitions, passed on from one place. Declares nothing.
pub use Rattle.base.proofs.Public.{Bool, Contains, Decides-eqb, IsSomeAnd, IsTrue, List, None, Option, Some, [], and_parts, ap, arith, cases_eq, cases_lt, cond, eqb-true, false, false≢true, filter, get_or, get_or-set_at, get_or-set_other, inl, inr, length, length-set, nat_le, nat_lt, ne_eqb, nat_tests, refl, set, slice_get, slice_index_or, sym, true, ℕ, ◌&&◌, ◌+◌, ◌-◌, ◌<◌, ◌==◌, ◌||◌, ◌∙◌, ◌∷◌, ◌≡◌, ◌≢◌, ◌≤◌, ◌⊎◌}
pub use Rattle.cluster.specs.declared.choices.Choice.TheVariants.{Idle, Idle as Stay}
pub use Rattle.cluster.specs.declared.choices.Place.{Place}
pub use Rattle.domains.proofs.Public.{contains_here, least_of_each, may_each, surely_each}
pub use Rattle.standings.proofs.Public.{kept_law}
pub use Rattle.reasons.proofs.Public.{end_is_choice, ends_of_rows, setting_sets, some_end}
pub use Rattle.relax.proofs.Public.{away, away_least}
pub use Rattle.rule_constraint.proofs.Public.{arrival, arrived, each_member, kept_applies, not_come, numbers, of_one, other-vm, own_present, row_end, same_present, vm_or}
pub use Rattle.rule_frame.proofs.Public.{first_of, last_of, later_in, no_less, unseen_still}
pub use Rattle.rule_frame.specs.Changes.{IsMachineLess}
pub use Rattle.slices.proofs.Public.{sound_form}
pub use Rattle.rule_place.specs.Prelude.{Act, AreDirtyUpTo, AreNodesDirty, Choice, Element, Instance, IsAllowed, IsDisturbed, IsLook, IsPlace, IsStill, IsUnusable, LetsGo, Levels, Look, MayGo, Node as TheNode, NodeId, Sets, Snapshot, Vm, VmId, broken_at, choices, forbidden_kinds, leave_of, no_row, node_count, one, needed_watch, seen, sets, sure, usable_watch, watch_at}
