pub mod Causing
pub mod ExecuteAnswers
pub mod RepairAnswers
