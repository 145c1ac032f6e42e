pub mod CheckPartsAnswers
