pub mod HeadLaws
pub mod PredicateLaws
