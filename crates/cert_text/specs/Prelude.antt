-- What is cited together of this crate and of those below it, passed on from one place. Declares nothing.
pub use Rattle.trees.specs.Prelude.{AreListed, goes_on_name, Instance, inventory_of, IsElement, IsInstance, IsNamed, machine_count, node, node_count, vm}
unfoldable pub use Rattle.trees.specs.Prelude.{has_node, is_name}
pub use Rattle.cluster.specs.declared.choices.Place.TheVariants.{At, Nowhere}
pub use Rattle.cluster.specs.declared.ids.Element.{Element}
pub use Rattle.cluster.specs.declared.sets.NodeSet.{NodeSet}
pub use Rattle.domains.specs.declared.parts.Part.{Part}
pub use Rattle.reasons.specs.declared.reason.Reason.{Reason}
pub use Rattle.reasons.specs.declared.reason.ReasonKind.{ReasonKind}
pub use Rattle.trees.specs.declared.steps.Goal.{Goal}
pub use Rattle.cert_text.specs.Kinds.{named, Word}
unfoldable pub use Rattle.cert_text.specs.Kinds.{goal_word, line_word, part_word, reason_word}
pub use Rattle.cert_text.specs.Laws.{LinesFit, LinesHaveNoNewline, LinesHaveOneReading, ReadingsAreExact, StepsAreLines}
unfoldable pub use Rattle.numerals.specs.Numbers.{number_of}
pub use Rattle.cert_text.specs.Reading.{all_read, give, goes_on, listed_in, name_in, names_of, nodes_in, one, part_of, place_in, Reading, words_of, ◌>>=◌}
unfoldable pub use Rattle.cert_text.specs.Reading.{goal, goal_kind, goal_of, line, line_kind, line_of, name, nodes, number, part, part_kind, place, reading, reason, reason_kind, reason_of}
pub use Rattle.cert_text.specs.Spaced.{all_spaced, spaced, spaced_if_in}
pub use Rattle.cert_text.specs.Spelling.{element_name, has_all, HasPart, HasPlace, HasReason, HasStep, node_names, node_numbers, nodes_text, part_text, place_name, reason_text, resource_name, step_text}
unfoldable pub use Rattle.cert_text.specs.Spelling.{certificate_text, end_line, step_line}
pub use Rattle.cert_text.specs.Texts.{AreNodes, goal_words, header, IsGoal, IsLine, IsName, IsNumber, IsPart, IsPlace, IsReason, IsStep, joined, line_words, max_line, nodes_words, part_words, place_word, reason_words, Spells, step_words}
pub use Rattle.cert_text.specs.declared.kinds.GoalKind.{GoalKind}
pub use Rattle.cert_text.specs.declared.kinds.GoalKind.TheVariants.{Infeasible, Optimal, Undecided}
pub use Rattle.cert_text.specs.declared.kinds.LineKind.{LineKind}
pub use Rattle.cert_text.specs.declared.kinds.LineKind.TheVariants.{Cut, Decide, Fail, Left, Plan}
pub use Rattle.cert_text.specs.declared.kinds.PartKind.{PartKind}
pub use Rattle.cert_text.specs.declared.kinds.PartKind.TheVariants.{From, Idle, Upto}
pub use Rattle.cert_text.specs.declared.kinds.TheConstants.{GOAL_KINDS, LINE_KINDS, PART_KINDS, REASON_KINDS}
pub use Rattle.cert_text.specs.declared.text.LineText.{LineText}
pub use Rattle.cert_text.specs.declared.text.LineText.TheVariants.{End, Step}
pub use Rattle.cert_text.specs.declared.text.NodesText.{NodesText}
pub use Rattle.cert_text.specs.declared.text.NodesText.TheVariants.{All, Listed}
pub use Rattle.cert_text.specs.declared.text.PartText.{PartText}
pub use Rattle.cert_text.specs.declared.text.ReasonText.{ReasonText}
pub use Rattle.cert_text.specs.declared.text.ReasonText.TheVariants.{Bound, Empty, Group, Hall, Load, Pair, Place, Power, SetLoad, Usable}
