pub mod ExplainAnswers
