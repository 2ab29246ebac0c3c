pub mod CandidateLaws
pub mod HeadLaws
pub mod WholeLaws
