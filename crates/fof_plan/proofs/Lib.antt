pub mod ChainLaws
pub mod PlanLaws
