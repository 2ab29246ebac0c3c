pub mod InkLaws
pub mod DueLaws
pub mod CodeLaws
pub mod AheadLaws
pub mod NameLaws
pub mod TakeLaws
