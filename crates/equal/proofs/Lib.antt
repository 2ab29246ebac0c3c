pub mod TermLaws
pub mod SeeLaws
pub mod EqualLaws
pub mod RestLaws
pub mod AtomLaws
