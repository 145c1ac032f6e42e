pub mod PictureAnswers
pub mod ReplayAnswers
pub mod ShowAnswers
