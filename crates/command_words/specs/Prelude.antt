-- What is cited together of this crate, passed on from one place. Declares nothing.
pub use Rattle.command_words.specs.Meaning.{HasFilesApart, meaning}
pub use Rattle.command_words.specs.Words.{are_names, asked, check, checkparts, Command, command_of, cut, demo, execute, explain, generate, is_name, is_plain, parts, picture, plan, repair, replay, script, show}
unfoldable pub use Rattle.command_words.specs.Words.{number_of}
