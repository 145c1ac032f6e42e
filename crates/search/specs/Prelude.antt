-- What is cited together of this crate and of those below it, passed on from one place. Declares nothing.
pub use Rattle.plan_io.specs.Prelude.{bytes_of, CountsWrites}
pub use Rattle.trees.specs.Prelude.{AreFixed, bound_of, children, fail_leaf, goal_of, is_online, is_raised, IsCut, IsFailed, IsHandedIn, IsLow, IsOnePlan, IsOnly, IsUndecided, least_shown, left_sets, lower_of, machine_kind, node_kind, parted, plan_sets, Proves, Refutes, shown, SomeUpto, state_of, wanted_of, wanted_state, with_domain}
unfoldable pub use Rattle.trees.specs.Prelude.{is_legal, kind_of}
pub use Rattle.cert_text.specs.Prelude.{HasPart, HasPlace, HasReason, IsNumber, node, vm}
pub use Rattle.branching.specs.Prelude.{element_count, HasElement, in_part, inventory_of, IsSized, same_place}
unfoldable pub use Rattle.branching.specs.Prelude.{end_of}
pub use Rattle.prop_core.specs.Prelude.{AllFollow, AllQuiet, AreFewer, AreLegal, choice_count, choices, Covered, CutHolds, domain_at, domain_before, DomainView, given_sum, IsAsked, IsElement, IsNarrowed, IsRegionOf, IsTrailOf, keeping, Marked, Meaning, most, on_side, out_of_part, Pairs, Rise, same_element, SameCover, SameRule}
pub use Rattle.cert_write.specs.Prelude.{choices_of, cost_of, decisions, FoundAt, has_left, HasStep, HaveChoices, inside, Instance, IsFixed, IsInstance, IsPlan, IsPlanFound, IsPlanOf, IsSplit, least_of, left_set, lower, lowest, machine_count, node_count, outside, plan_costs, plan_set, PlanChoices, RegionView, Sets, sets, steps_of, Tree, WasSearched}
unfoldable pub use Rattle.cert_write.specs.Prelude.{end_line, IsValid, least_cost, start_sets, step_line}
pub use Rattle.base.specs.Sums.{sum_to}
pub use Rattle.cluster.specs.declared.{choices.Choice.Choice, choices.Choice.TheVariants.Act, choices.Choice.TheVariants.Idle, choices.Place.Place, choices.Place.TheVariants.At, choices.Place.TheVariants.Nowhere, ids.Element.Element}
pub use Rattle.cluster.specs.declared.{ids.Element.TheVariants.Node, ids.Element.TheVariants.Vm, ids.NodeId.NodeId, kinds.Kind.Kind}
pub use Rattle.catalogue.specs.declared.targets.Wish.{Wish, TheVariants.Clash, TheVariants.Keep, TheVariants.To}
pub use Rattle.domains.specs.declared.{parts.Change.Change, parts.Part.Part, undo.Before.Before}
pub use Rattle.reasons.specs.declared.reason.Reason.{Reason}
pub use Rattle.trees.specs.declared.steps.{Goal.Goal, Step.Step}
pub use Rattle.trees.specs.declared.steps.Step.TheVariants.{Cut, Decide, Fail, Left, Plan}
pub use Rattle.cert_text.specs.Spelling.{IsStart}
pub use Rattle.prop_core.specs.Propagators.{FailHolds}
pub use Rattle.search.specs.Answers.{choices_in, goal_in, IsTreeOf, IsTrueOf, IsValidPlan, least_in, plan_in}
pub use Rattle.search.specs.{Staying.all_idle, Staying.IsStayed, Staying.IsStayingPlan, Staying.MayStay, declared.progress.Best.Best, declared.progress.Progress.Progress, declared.found.Found.Found}
pub use Rattle.search.specs.Underway.{cost_kept, found_of, IsCheapest, IsPlanOfCost, leaves_along, left_along, none_yet, plan_kept, Underway}
pub use Rattle.search.specs.Works.{ArePaired, Ends, Enters, Goes, GoesOn, IsClear, IsDue, IsGround, IsLeaf, IsParted, IsLeafWritten, IsShown, IsRoundDone, IsVisited, open_after, open_sets, outer_sides, Splits, still_open, Works}
pub use Rattle.search.specs.Written.{answered, by_rule, cut_steps, IsKept, LeavesLines, LeavesText, lines, WritesOn}
pub use Rattle.search.specs.declared.found.Found.TheVariants.{Infeasible, Optimal, Undecided}
