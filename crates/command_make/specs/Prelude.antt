-- What is cited together of this crate and of those below it, passed on from one place. Declares nothing.
pub use Rattle.command_frame.specs.Prelude.{CountsWrites, Files, HasText, Instance, instance_in, IsOfReading, IsOfWriting, IsRefusal, IsTextCut, LeavesBy, max_text_bytes, OnlyReads, OthersStay, outside, PartCauses, Reads, WriteCauses}
pub use Rattle.command_frame.specs.declared.{fault.Ending.Ending, fault.Fault.Fault, status.Status.Status}
unfoldable pub use Rattle.command_frame.specs.Prelude.{AnswersFrom, Ends, instance_of, whole_of}
unfoldable pub use Rattle.instance_make.specs.Prelude.{generated, instance_text}
pub use Rattle.rule_script.specs.{Laws.AddsTo, Texts.wrong_text}
pub use Rattle.command_make.specs.Generating.{HasGenerated, IsGenerated, LeavesGenerated}
unfoldable pub use Rattle.command_make.specs.{Generating.generated_line, Scripting.scripted_line}
pub use Rattle.command_make.specs.ScriptInput.{script_in, script_line, script_lined, script_reading_of}
pub use Rattle.command_make.specs.Scripting.{IsScripted, LeavesScripted, Scripts}
