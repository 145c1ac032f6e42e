-- What is cited together of this crate and of those below it, passed on from one place. Declares nothing.
pub use Rattle.trees.specs.Prelude.{cost_of, IsIn, IsPlan, IsPlanOf, max_nodes}
pub use Rattle.cert_text.specs.Prelude.{AreListed, element_name, has_all, HasPlace, HasStep, IsNamed, IsNumber, node, nodes_text, part_text, place_name, reason_text, resource_name, vm}
pub use Rattle.cert_read.specs.Prelude.{AreWritable, as_line, bytes_of, end_of, Faults, HasPart, inventory_of, is_end, IsGoal, IsOutside, least_of, lines_of, node_count, position_after, ReadsOn, start, step_text, Word}
unfoldable pub use Rattle.cert_read.specs.Prelude.{certificate_text, end_at, first_line_at, header_bytes, line_at, no_nodes, text_at, turn, with_node}
pub use Rattle.cert_model.specs.Prelude.{AtEach, bound_of, children, Choices, decisions, goal_of, GoalHolds, has_left, in_part, Instance, IsElement, IsEndWhy, IsFault, IsHandedIn, IsInstance, IsLean, IsPlanLeaf, IsProof, IsRefused, Kept, Leads, LeadsTo, LeanAt, least_along, left_set, lower_of, lowest, machine_count, max_cost, out_of_part, PartHolds, PlanHolds, Proves, ReasonHolds, Sets, shown, StepHolds, steps_of, sum_to, Tree, WalkAt}
unfoldable pub use Rattle.cert_model.specs.Prelude.{has_node, is_legal, least_cost, start_sets}
pub use Rattle.cluster.specs.declared.{choices.Choice.Choice, choices.Choice.TheVariants.Act, choices.Place.TheVariants.At, choices.Place.TheVariants.Nowhere, ids.Element.Element, ids.Element.TheVariants.Node, ids.Element.TheVariants.Vm, ids.NodeId.NodeId, ids.VmId.VmId, sets.NodeSet.NodeSet}
pub use Rattle.domains.specs.declared.parts.Part.TheVariants.{From, Idle, Upto}
pub use Rattle.trees.specs.declared.steps.Step.TheVariants.{Cut, Decide, Fail, Left}
pub use Rattle.cert_text.specs.declared.text.{LineText.LineText, StepText.StepText}
pub use Rattle.cert_read.specs.Reader.{IsMoved, StandsIn}
pub use Rattle.cert_read.specs.declared.{line.Line.TheVariants.End, line.Line.TheVariants.Over, line.Line.TheVariants.Step, line.LineFault.LineFault, line.LineFault.TheVariants.NotALine, line.LineFault.TheVariants.ReadFault, line.LineFault.TheVariants.Short, line.LineFault.TheVariants.TooLong, position.Position.Position}
pub use Rattle.cert_model.specs.Walks.{choices_handed, Ends, FollowWalk, IsLeast, IsStanding, IsUnchanged, IsWrong}
pub use Rattle.cert_model.specs.declared.why.Why.{Why, TheVariants.Goal, TheVariants.Lean, TheVariants.Name, TheVariants.Part, TheVariants.Plan, TheVariants.Reason, TheVariants.Structure}
pub use Rattle.cert_check.specs.{Laws.CertificateIsAccepted, Laws.HasWritablePart, Laws.IsWritable, Laws.IsYesUnlessOutside, Turns.Concludes, Turns.IsGoing, Turns.IsTaken, Turns.IsUnderway, Turns.TextAnswers, Turns.TurnGives, Verdicts.AreSteps, Verdicts.AreTaken, Verdicts.CheckGives, Verdicts.CountsCheck, Verdicts.IsFit, Verdicts.IsGoalRefused, Verdicts.IsShown, Verdicts.IsSound, Verdicts.IsStepRefused, Verdicts.IsTextWhy, Verdicts.IsYes, Verdicts.LinesGive}
unfoldable pub use Rattle.cert_check.specs.Names.{as_instant, first_nodes, named_constraint, named_element, named_hall, named_load, named_machine, named_node, named_nodes, named_pair, named_part, named_place, named_reason, named_resource, named_stay, named_step, named_use, node_added, nodes_added}
pub use Rattle.cert_check.specs.declared.verdict.{CheckFault.CheckFault, CheckFault.TheVariants.Line, CheckFault.TheVariants.Memory, Verdict.Verdict, Verdict.TheVariants.No, Verdict.TheVariants.Yes}
