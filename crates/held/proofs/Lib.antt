pub mod MeetLaws
pub mod VariableLaws
