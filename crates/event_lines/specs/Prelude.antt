-- What is cited together of this crate and of those below it, passed on from one place. Declares nothing.
pub use Rattle.plan_io.specs.Causes.{CountsReads}
pub use Rattle.event_lines.specs.Lines.{BeginsLine, IsOneLine, max_line_bytes, ReadsLine, Says}
unfoldable pub use Rattle.event_lines.specs.Lines.{fault_text}
pub use Rattle.event_lines.specs.Reading.{LineCauses, LineGives}
pub use Rattle.event_lines.specs.declared.faults.{EventFault.EventFault, LineFault.LineFault}
pub use Rattle.event_lines.specs.declared.lines.{Line.Line, Line.TheVariants.Nothing, Line.TheVariants.Short, Line.TheVariants.TooLong, Line.TheVariants.Whole}
