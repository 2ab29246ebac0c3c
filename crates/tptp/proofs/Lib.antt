pub mod MeaningLaws
pub mod AnswerLaws
pub mod TrueLaws
pub mod Cases
pub mod PartsLaws
pub mod ConvertedLaws
