pub mod FairLaws
pub mod HalvesLaws
pub mod RootLaws
pub mod VerdictLaws
