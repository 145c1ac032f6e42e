-- What proofs of this crate cite together of what stands below them, passed on from one place. Declares nothing.
pub use Rattle.base.proofs.Public.{[], ap, append-nil, arith, Bool, Contains, false, filter, IfSome, is_some, IsSomeAnd, IsTrue, length, length-reverse, List, map, map-append, None, not, Option, refl, reverse, reverse-append, rules, Some, subst, sym, true, unwrap_or, ℕ, ◌++◌, ◌+◌, ◌<◌, ◌^◌, ◌∙◌, ◌∷◌, ◌≡◌, ◌≢◌, ◌≤◌}
pub use Rattle.bound.proofs.Public.{cost_change, cost_is_small, cost_term, kept_else, kept_here}
pub use Rattle.domains.proofs.Public.{filter_is_fewer}
pub use Rattle.domains.specs.declared.parts.Part.{Part}
pub use Rattle.standings.proofs.Public.{before_law, fewer_law}
pub use Rattle.quick_checks.proofs.Public.{tally_stays}
pub use Rattle.reasons.proofs.Public.{only_costs, start_is_legal}
pub use Rattle.trees.proofs.Public.{above_cheapest, at_each_both, at_each_map, certificates_hold, decisions_append, gathered_push, gathered_whole, IsAbove, leads_push, leads_same, leads_tree, lowest_push, plan_costs_append, tree_of}
pub use Rattle.trees.specs.declared.steps.Step.TheVariants.{Plan}
pub use Rattle.cert_model.specs.Prelude.{AreCounted, AreCountedAt, AreFewer, AreFixed, AreFollowing, AreKnown, AreStanding, choices, Standing, Tables, Tally, AreLegal, AtEach, BackSame, Before, bound_of, Change, children, Choice, Choices, Covered, Cut, Decide, decisions, domain_at, domain_before, DomainView, Due, due_sets, due_sums, Element, end_of, Fact, Fail, Frontier, gathered_along, goal_of, GoalHolds, has_left, in_part, Instance, is_legal, IsAsked, IsClosed, IsElement, IsFixed, IsInstance, IsLean, IsOnly, IsPlanLeaf, IsProof, IsRegionOf, IsSized, IsTally, IsUndecided, IsValid, keeping, Kept, later_sets, later_sums, Leads, LeadsTo, LeanAt, least, least_along, least_cost, least_shown, least_with, Left, left_along, left_set, lower, lower_of, lower_option, lowest, machine_count, Marked, MarkedSame, max_cost, Meaning, node, Node, Nothing, on_side, open_of, open_sets, open_sums, out_of_part, outer_sets, Outside, outside, Pairs, plan_costs, PostedSame, ProofsHold, Proves, RegionView, same_element, SameCover, sets, Sets, shown, Stands, start_sets, stays, Step, StepHolds, steps_of, sums_of, the_view, ToldSame, TopsAgree, Tree, vm, Vm, WalkAt, Whole}
