pub mod CutAnswers
pub mod PartsAnswers
