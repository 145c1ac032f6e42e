-- What is cited together of this crate and of those below it, passed on from one place. Declares nothing.
pub use Rattle.trees.specs.Prelude.{AreFixed, AtEach, bound_of, children, Choices, decisions, Fact, gathered_along, goal_of, GoalHolds, has_left, HasElement, HaveChoices, in_part, inside, IsClosed, IsElement, IsFixed, IsHandedIn, IsInstance, IsLean, IsOnly, IsPlanLeaf, IsSplit, IsUndecided, keeping, Leads, LeanAt, least, least_shown, left_set, lower, lower_of, lower_option, lowest, max_cost, node, on_side, out_of_part, outside, plan_costs, Proves, Refutes, same_element, seen, shown, stays, StepHolds, steps_of, Tree, vm}
unfoldable pub use Rattle.trees.specs.Prelude.{end_of, has_node, is_legal, IsValid, least_cost, start_sets}
pub use Rattle.bound.specs.Prelude.{Instance, machine_count, RegionView, Sets, sets, sum_to}
pub use Rattle.cluster.specs.declared.{choices.Choice.Choice, ids.Element.Element, ids.Element.TheVariants.Node, ids.Element.TheVariants.Vm}
pub use Rattle.relax.specs.Prelude.{AreFewer, AreLegal, choices, IsSized}
pub use Rattle.standings.specs.Prelude.{AreStanding, Tables}
pub use Rattle.standings.specs.declared.numbers.Standing.{Standing}
pub use Rattle.trees.specs.declared.steps.Step.{Step, TheVariants.Cut, TheVariants.Decide, TheVariants.Fail, TheVariants.Left}
pub use Rattle.bound.specs.Losses.{least_with}
pub use Rattle.prop_core.specs.Prelude.{BackSame, Before, Change, Covered, domain_at, domain_before, DomainView, IsAsked, IsNarrowed, IsRegionOf, Marked, MarkedSame, Meaning, Pairs, PostedSame, SameCover, ToldSame, TopsAgree}
pub use Rattle.quick_checks.specs.Prelude.{AreKnown, IsTally}
pub use Rattle.quick_checks.specs.declared.tally.Tally.{Tally}
pub use Rattle.cert_model.specs.{Following.AreCounted, Following.AreCountedAt, Following.AreFollowing, Following.FollowWhile, Frontiers.AreSame, Frontiers.AreSameSize, Frontiers.FollowFrontier, Frontiers.IsEntered, Frontiers.IsKept, Frontiers.later_sets, Frontiers.later_sums, Frontiers.open_sets, Frontiers.open_sums, Laws.ProofsHold, Open.due_sets, Open.due_sums, Open.outer_sets, Walks.IsEndWhy, Walks.IsFault, Walks.IsProof, Walks.IsRefused, Walks.Kept, Walks.LeadsTo, Walks.least_along, Walks.left_along, Walks.open_of, Walks.PartHolds, Walks.PlanHolds, Walks.ReasonHolds, Walks.Stands, Walks.sums_of, Walks.WalkAt, contracts.walk.Walk.the_view}
pub use Rattle.cert_model.specs.declared.{frontier.Due.Due, frontier.Due.TheVariants.Nothing, frontier.Due.TheVariants.Outside, frontier.Due.TheVariants.Whole, frontier.Frontier.Frontier}
