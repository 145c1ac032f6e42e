pub mod GenerateAnswers
pub mod OutputLemmas
pub mod ScriptAnswers
pub mod ScriptReadings
