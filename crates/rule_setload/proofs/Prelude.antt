-- What proofs of this crate cite together of std, of the crates below and of its definitions, passed on from one place. Declares nothing.
pub use Rattle.base.proofs.Public.{Bool, Contains, Decides-eqb, IsTrue, nat_tests, ◌||◌, ◌⊎◌, Contains-get_or, List, None, Option, Some, [], ap, arith, cases_eq, cases_lt, cond, false, false≢true, flat_map, get_or, inl, inr, length, length-append, max, nat_le, nat_lt, ne_eqb, or_cases, refl, rules, slice_get, slice_get_read, slice_index_or, subst, suc, sum_by, sum_by_push, sum_to-add, sum_to-le, sum_to-none, sum_to-one, sum_to-term, sym, take, take-suc, take_all, true, zero, ℕ, ◌&&◌, ◌*◌, ◌++◌, ◌+◌, ◌-◌, ◌<◌, ◌==◌, ◌∙◌, ◌∷◌, ◌≡◌, ◌≤◌}
pub use Rattle.catalogue.proofs.Public.{use_of_le}
pub use Rattle.cluster.specs.declared.choices.Place.{Place}
pub use Rattle.domains.proofs.Public.{contains_here, least_of_each}
pub use Rattle.domains.specs.SetsBefore.{sets_before}
pub use Rattle.profiles.proofs.Public.{all_over, each_push, few_once, kept_law, level_below, level_top, movers_grown, movers_told}
pub use Rattle.reasons.proofs.Public.{end_is_choice, ends_of_rows, machine_change, node_change, setting_agrees, setting_powered, setting_total}
pub use Rattle.rule_constraint.proofs.Public.{arrival, kept_applies, numbers, of_one, row_end}
pub use Rattle.rule_frame.proofs.Public.{first_of, narrowed_is_fewer, no_less}
pub use Rattle.rule_frame.specs.Caches.{IsCacheTold}
pub use Rattle.slices.proofs.Public.{held_by_node}
pub use Rattle.slices.specs.declared.slice.What.TheVariants.{Image as OfImage}
pub use Rattle.profiles.specs.Prelude.{level_at, Tables}
pub use Rattle.rule_setload.specs.Prelude.{AreStanding, is_continuous, StaysAt, StaysWhenDue, IsRowEnd, Allowed, Apart, Applies, AreAllStayers, AreAmountsKept, AreExtra, AreStayersOf, Before, Bound, Bounded, Choice, Constraint, DomainView, Element, Form, Holder, InTurn, Instance, IsBroken, IsBrokenBy, IsClean, IsElement, IsEnd, IsFreeOf, IsGrown, IsPower, IsSetLoad, IsToldOf, Lists, Node as TheNode, NodeSet, Nodes, Ordered, Power, Powered, ReasonKind, RegionView, SetLoad, Sets, Settled, Snapshot, Stayers, StaysIn, Together, Vm, Watch, Weight, bound_in, bound_of, broken_at, cache_of, choices, choose, domain_at, domain_before, form_of, has_node, machine_count, max_amount, no_stayers, no_watch, node, of_kind, passes, reason_kind, rule_watch, set_kinds, sets, setting, sure, total, watch_at}
