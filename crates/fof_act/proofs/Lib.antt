pub mod ActLaws
pub mod RunLaws
