-- What is cited together of this crate and of those below it, passed on from one place. Declares nothing.
pub use Rattle.judge.specs.Prelude.{cell, Choices, choices_of, element_count, InRange, Instance, inventory_of, IsElement, IsPlanOf, Loads, node, node_count}
unfoldable pub use Rattle.judge.specs.Prelude.{end_of}
pub use Rattle.cluster.specs.declared.{choices.Choice.Choice, choices.Choice.TheVariants.Act, choices.Place.Place, ids.Element.Element}
pub use Rattle.plan_io.specs.Causes.{CountsWrites}
pub use Rattle.slices.specs.declared.rule.Broken.{Broken}
pub use Rattle.replay.specs.{Events.turns_below, Report.IsPrefixOfReport, Report.IsVerdict}
unfoldable pub use Rattle.replay.specs.{Events.events, Events.is_event, Events.turns, Lines.at_line, Lines.broken_line, Lines.node_text, Lines.verdict_line, Report.report_text}
pub use Rattle.replay.specs.Lines.{element_name, loads_text, nodes_text, resource_name, rule_text, spaced}
