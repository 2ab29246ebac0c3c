pub mod SentenceLaws
pub mod TruthLaws
pub mod PartLaws
pub mod BookLaws
pub mod ReadLaws
pub mod Cases
