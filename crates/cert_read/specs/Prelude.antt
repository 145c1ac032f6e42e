-- What is cited together of this crate and of those below it, passed on from one place. Declares nothing.
pub use Rattle.trees.specs.Prelude.{Choices, decisions, element_named, IsCertificate, IsHandedIn, IsLean, least_of, resource_named, steps_of, Tree}
unfoldable pub use Rattle.trees.specs.Prelude.{no_nodes, start_sets, with_node}
pub use Rattle.cert_text.specs.Prelude.{HasPart, header, Instance, inventory_of, IsGoal, IsInstance, IsLine, joined, line_words, max_line, node_count, step_text, Word}
unfoldable pub use Rattle.cert_text.specs.Prelude.{certificate_text, end_line, has_node, reading, step_line}
pub use Rattle.plan_io.specs.Files.{bytes_of}
pub use Rattle.trees.specs.declared.steps.Goal.{Goal}
unfoldable pub use Rattle.cert_text.specs.Spelling.{header_line}
pub use Rattle.cert_text.specs.declared.text.LineText.{LineText}
pub use Rattle.cert_read.specs.{Laws.AreWritable, Laws.lines_of, Laws.ReadsOn, declared.line.Line.Line, declared.line.Line.TheVariants.End, declared.line.Line.TheVariants.Over, declared.line.Line.TheVariants.Step, declared.line.LineFault.LineFault}
pub use Rattle.cert_read.specs.Lines.{as_line, end_of, is_end, position_after, start}
unfoldable pub use Rattle.cert_read.specs.Lines.{bytes_before_newline, end_at, first_line_at, header_bytes, line_at, line_bytes, text_at, turn}
pub use Rattle.cert_read.specs.Reader.{CountsLine, Faults, Gives, IsOutside, max_held}
pub use Rattle.cert_read.specs.declared.line.LineFault.TheVariants.{Memory, NotALine, ReadFault, Short, TooLong}
pub use Rattle.cert_read.specs.declared.position.Position.{Position}
