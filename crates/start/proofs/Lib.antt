pub mod HighLaws
pub mod TableLaws
