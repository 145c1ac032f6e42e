-- What proofs of this crate cite together of std, of the crates below and of its definitions, passed on from one place. Declares nothing.
pub use Rattle.base.proofs.Public.{All, All-cons, All-head, All-tail, Any-from_list_any, Bool, Contains, IsTrue, List, [], ap, arith, at_read, cases_eq, cases_lt, cond, eq-eqb, false, filter, get_or, get_or-set_other, get_or-set_same, inl, inr, length, length-set, not, refl, set, subst, suc, sum_by-cons, sum_by-set, sym, take, true, ℕ, ◌&&◌, ◌+◌, ◌<◌, ◌↔◌, ◌∙◌, ◌∷◌, ◌≡◌, ◌≢◌, ◌≤◌}
pub use Rattle.domains.proofs.Public.{count_falls_below, filter_is_fewer, same_is}
pub use Rattle.domains.specs.SetsBefore.{sets_before}
pub use Rattle.reasons.proofs.Public.{closed_by_kinds}
pub use Rattle.relax.proofs.Public.{legal_stays}
pub use Rattle.prop_core.specs.Prelude.{AllFollow, AllQuiet, AllRight, AreFewer, AreLegal, AtMarks, BackSame, Before, Change, Choice, Covered, CutHolds, DomainView, Element, Follows, HaveChoices, Instance, IsAsked, IsClosed, IsElement, IsNarrowed, IsOneOf, IsQuietKind, IsRegionOf, IsStandard, IsTrailOf, KeepsBelow, Marked, MarkedSame, Meaning, Node, Pairs, Part, PostedSame, Quiet, Reason, ReasonKind, RegionView, Rise, SameCover, SameRule, Sets, ToldSame, TopAgrees, TopsAgree, Vm, choice_count, choices, domain_at, domain_before, given_sum, is_covered, keeping, machine_count, most, node_count, on_side, out_of_part, same_element, sets}
