pub mod TriedLaws
pub mod RuleLaws
pub mod SetLaws
