-- What proofs of this crate cite together of what stands below them, passed on from one place. Declares nothing.
pub use Rattle.base.proofs.Public.{[], All, All-head, All-tail, All-weaker, ap, append-nil, arith, Bool, cases_eq, cases_lt, drop, each_passes, Err, false, filter, IfOk, if◌then◌else◌, inl, inr, IsErrAnd, IsTrue, length, length-append, List, map, map-append, MatchOption, nat_lt, nat_tests, None, Ok, Option, option_copied, range_with_len, refl, Result, rules, Some, subst, suc, sum_to-bound, sym, true, zero, ℕ, ◌&&◌, ◌*◌, ◌++◌, ◌+◌, ◌-◌, ◌<◌, ◌==◌, ◌^◌, ◌||◌, ◌∙◌, ◌∷◌, ◌≡◌, ◌≤◌}
pub use Rattle.cert_model.proofs.Public.{end_small, no_value, proofs_hold, whole_of}
pub use Rattle.cert_read.proofs.Public.{certificates_read_back}
pub use Rattle.cert_text.proofs.Public.{named_reason}
pub use Rattle.cluster.proofs.Public.{element_named-name_of, has_node-no_nodes, has_node-with_node, resource_named-listed, same_set}
pub use Rattle.cluster.specs.declared.choices.Place.{Place}
pub use Rattle.domains.proofs.Public.{plan_stays}
pub use Rattle.reasons.proofs.Public.{start_is_plan}
pub use Rattle.trees.proofs.Public.{gathered_whole, leads_same, leads_split, leads_tree, only_in}
pub use Rattle.trees.specs.declared.steps.{Goal.Goal, Step.TheVariants.Plan, Step.Step}
pub use Rattle.cert_check.specs.Prelude.{AreListed, AreSteps, AreTaken, AreWritable, as_line, At, bound_of, bytes_of, certificate_text, CertificateIsAccepted, CheckFault, children, Choices, choices_handed, Concludes, cost_of, Cut, Decide, decisions, Element, element_name, End, end_of, Ends, Fail, Faults, FollowWalk, From, goal_of, GoalHolds, has_all, has_left, has_node, HasPart, HasPlace, HasStep, HasWritablePart, header_bytes, Idle, in_part, Instance, inventory_of, is_end, IsElement, IsEndWhy, IsFault, IsFit, IsGoal, IsGoalRefused, IsHandedIn, IsIn, IsInstance, IsLean, IsLeast, IsMoved, IsNamed, IsNumber, IsOutside, IsPlan, IsPlanLeaf, IsProof, IsRefused, IsShown, IsSound, IsStepRefused, IsTaken, IsTextWhy, IsUnderway, IsWritable, IsWrong, IsYes, IsYesUnlessOutside, Kept, Leads, LeadsTo, Lean, least_along, least_cost, least_of, Left, left_set, Line, LineFault, lines_of, LinesGive, LineText, lower_of, lowest, machine_count, max_cost, max_nodes, Memory, Name, No, no_nodes, node, Node, node_count, NodeId, nodes_text, NodeSet, NotALine, Nowhere, out_of_part, Over, Part, part_text, PartHolds, place_name, PlanHolds, Position, position_after, Proves, ReadFault, ReadsOn, Reason, reason_text, ReasonHolds, resource_name, Sets, Short, shown, StandsIn, start, start_sets, step_text, StepHolds, steps_of, StepText, Structure, sum_to, text_at, TextAnswers, TooLong, Tree, TurnGives, Upto, Verdict, vm, Vm, VmId, WalkAt, Why, with_node, Word, Yes}
unfoldable pub use Rattle.cert_check.specs.Prelude.{as_instant, end_at, first_line_at, first_nodes, line_at, named_constraint, named_element, named_hall, named_load, named_machine, named_node, named_nodes, named_pair, named_part, named_place, named_resource, named_stay, named_step, named_use, node_added, nodes_added, turn}
