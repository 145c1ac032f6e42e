-- What proofs of this crate cite together of std, of the crates below and of its definitions, passed on from one place. Declares nothing.
pub use Rattle.base.proofs.Public.{Bool, Contains, Contains-append_cases, Contains-append_left, Contains-append_right, IsSomeAnd, IsTrue, List, None, Option, Some, [], ap, arith, both_ways, cases_eq, cases_lt, eqb-true, false, false≢true, filter, get_or, get_or-set_at, get_or-set_other, get_or_default, get_or_past, inl, inr, length, length-set, nat_tests, or_cases, refl, set, slice_get, slice_index_or, subst, suc, sym, true, zero, ℕ, ◌&&◌, ◌++◌, ◌+◌, ◌<◌, ◌==◌, ◌||◌, ◌∙◌, ◌∷◌, ◌≡◌, ◌≢◌, ◌≤◌, ◌⊎◌}
pub use Rattle.closing.specs.Kinds.{powered_in_set}
pub use Rattle.closing.specs.Watches.{IsMachineUnseen, IsNodeUnseen}
pub use Rattle.cluster.specs.declared.choices.Choice.TheVariants.{Idle}
pub use Rattle.domains.proofs.Public.{contains_filter}
pub use Rattle.reasons.proofs.Public.{ends_of_rows, setting_sets}
pub use Rattle.rule_frame.proofs.Public.{narrowed_is_fewer, unseen_still}
pub use Rattle.rule_constraint.specs.Prelude.{Act, Apart, AreDirty, AreFewer, AreLooking, Arrival, At, Between, Choice, Climbs, Constraint, DomainView, Each, Element, HasList, Instance, IsAdded, IsBrokenBy, IsClean, IsDisturbed, IsElement, IsEnd, IsHarmless, IsInPart, IsIndexOf, IsListed, IsMember, IsPut, IsSpared, IsStanding, IsUnseen, Levels, Lists, Node as TheNode, NodeId, NodeSet, Nowhere, Ordered, Powered, ReasonKind, Row, Scope, Sets, Snapshot, Standing, StaysClean, Upto, Vm, VmId, actions_of, broken_at, broken_by, choices, choose, comes_by, constraint_watch, form_of, form_seen, has_come, has_node, in_part, is_continuous, is_member, kept_watch, leave_of, no_row, no_watch, nothing, one, passes, presences_of, present_at, reason_kind, row_at, rule_watch, scope_of, sets, setting, sure, vm, watch_at, watch_of}
