-- what a reader must believe: what each command answers and leaves, and what a script means
pub mod ScriptInput
pub mod Generating
pub mod Scripting
pub mod Prelude
