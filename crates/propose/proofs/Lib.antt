pub mod PartsLaws
pub mod AnswerLaws
