pub mod LineLaws
pub mod LinesLaws
