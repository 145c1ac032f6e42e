-- What is cited together of this crate and of those below it, passed on from one place. Declares nothing.
pub use Rattle.reasons.specs.Prelude.{AreFewer, AreListed, choice_count, Choices, choices, choices_of, Climbs, ComesBefore, cost_of, domain_at, domain_before, DomainView, element_at, element_count, element_named, element_number, Excludes, goes_on_name, HasElement, HaveChoices, in_part, InRange, Instance, Inventory, inventory_of, is_online, is_raised, IsClosed, IsElement, IsFirstBroken, IsFirstUnfixed, IsFixed, IsFixedAt, IsIn, IsInfeasible, IsInstance, IsListed, IsNamed, IsOneOf, IsOnly, IsOptimal, IsOverload, IsPlan, IsPlanOf, keeping, least, lower, lower_option, lowest, machine_count, machine_kind, max_capacity, max_cost, max_held, max_nodes, name_of, no_row, node, node_count, node_kind, Nodes, on_side, out_of_part, parted, place_index, PlanChoices, Refutes, RegionView, resource_named, room, row_choices, same_element, same_place, seen, Sets, sets, size, Snapshot, starts_from, state_of, stays, sum_to, vm, wanted_of, wanted_state, with_domain, within}
unfoldable pub use Rattle.reasons.specs.Prelude.{end_of, has_node, is_legal, is_name, IsValid, kind_of, least_cost, no_nodes, start_sets, sure, with_node}
pub use Rattle.cluster.specs.declared.choices.Choice.{Choice}
pub use Rattle.cluster.specs.declared.choices.Choice.TheVariants.{Act}
pub use Rattle.cluster.specs.declared.choices.Place.TheVariants.{At, Nowhere}
pub use Rattle.cluster.specs.declared.ids.Element.{Element}
pub use Rattle.cluster.specs.declared.ids.Element.TheVariants.{Node, Vm}
pub use Rattle.cluster.specs.declared.ids.NodeId.{NodeId}
pub use Rattle.cluster.specs.declared.ids.VmId.{VmId}
pub use Rattle.cluster.specs.declared.kinds.Kind.{Kind}
pub use Rattle.cluster.specs.declared.names.NameFault.{NameFault}
pub use Rattle.cluster.specs.declared.names.NameFault.TheVariants.{BadName}
pub use Rattle.cluster.specs.declared.sets.NodeSet.{NodeSet}
pub use Rattle.catalogue.specs.declared.targets.Wish.{Wish}
pub use Rattle.catalogue.specs.declared.targets.Wish.TheVariants.{Clash, Keep, To}
pub use Rattle.domains.specs.declared.parts.Change.{Change}
pub use Rattle.domains.specs.declared.parts.Part.{Part}
pub use Rattle.domains.specs.declared.parts.Part.TheVariants.{From, Idle, Upto}
pub use Rattle.domains.specs.declared.parts.Row.{Row}
pub use Rattle.domains.specs.declared.undo.Before.{Before}
pub use Rattle.slices.specs.declared.rule.Broken.{Broken}
pub use Rattle.slices.specs.declared.slice.Weight.TheVariants.{Amount}
pub use Rattle.reasons.specs.declared.reason.Reason.{Reason}
pub use Rattle.reasons.specs.declared.reason.ReasonKind.{ReasonKind}
pub use Rattle.reasons.specs.declared.reason.ReasonKind.TheVariants.{Bound, Empty, Group, Hall, Load, Pair, Place, Power, SetLoad, Usable}
pub use Rattle.trees.specs.Certificates.{bound_of, GoalHolds, IsCertificate, IsHandedIn, least_of, NoneUndercuts}
pub use Rattle.trees.specs.Finding.{AllFrom, FoundAt, FoundIsLean, FoundIsSearched, FoundProves, IsFailed, IsLow, StayingProves}
pub use Rattle.trees.specs.Goals.{decisions, goal_of, has_left, least_shown, left_set, left_sets, lower_of, shown}
pub use Rattle.trees.specs.Laws.{CertificatesHold, DecisionsFit, IsInSome, LeanTreesFit, LeastHolds, LeastIsShown, PlansFoundHold, ProvedExcludes, ProvedLeaves}
pub use Rattle.trees.specs.Proving.{IsCut, IsOnePlan, IsPlanLeaf, IsSplit, Proves, StepHolds}
pub use Rattle.trees.specs.Searching.{AllAbove, AreFixed, IsLean, IsPlanFound, IsPlanOfSome, IsUndecided, LeanAt, plan_costs, plan_set, plan_sets, SearchedAt, SomeUpto, WasSearched}
pub use Rattle.trees.specs.Trees.{AtEach, children, cut_then, decide_both, Fact, fail_leaf, gathered, gathered_along, inside, Leads, left_leaf, outside, plan_leaf, steps_of, Tree}
pub use Rattle.trees.specs.declared.steps.Goal.{Goal}
pub use Rattle.trees.specs.declared.steps.Goal.TheVariants.{Infeasible, Optimal, Undecided}
pub use Rattle.trees.specs.declared.steps.Step.{Step}
pub use Rattle.trees.specs.declared.steps.Step.TheVariants.{Cut, Decide, Fail, Left, Plan}
