pub mod KeyLaws
pub mod WalkLaws
pub mod AtomLaws
pub mod RuleLaws
pub mod ChainLaws
pub mod FillLaws
pub mod NextLaws
