-- What crates above may cite: the laws, by the names of their statements in specs/; and of steps one after another, for any fact at each.
pub use Rattle.trees.proofs.LeaveLemmas.{only_plan, proved_excludes, proved_leaves}
pub use Rattle.trees.proofs.LeastLemmas.{least_holds, least_is_shown}
pub use Rattle.trees.proofs.GoalLemmas.{certificates_hold}
pub use Rattle.trees.proofs.PlanLemmas.{only_in, plan_at_last, plan_in_front, plans_found_hold}
pub use Rattle.trees.proofs.FitLemmas.{lean_trees_fit}
pub use Rattle.trees.proofs.StepLemmas.{leads_append, leads_push, leads_same, leads_split, leads_tree}
pub use Rattle.trees.proofs.GrowLemmas.{IsOneTree, tree_of}
pub use Rattle.trees.proofs.TurnLemmas.{at_each_both, at_each_map, at_each_turn, leads_map, leads_turn}
pub use Rattle.trees.proofs.CountLemmas.{decisions_append, has_left_append, plan_costs_append}
pub use Rattle.trees.proofs.GatherLemmas.{gathered_push, gathered_whole}
pub use Rattle.trees.proofs.FoundLemmas.{bound_or, found_is_lean, found_is_searched, found_proves, refutes_any, staying_proves}
pub use Rattle.trees.proofs.CheapLemmas.{IsAbove, above_cheapest, cheapest_is_low, lowest_push, same_sets, upto_cheapest}
