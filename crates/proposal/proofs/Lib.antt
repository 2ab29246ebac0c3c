pub mod InsideLaws
pub mod MeaningLaws
pub mod PaperLaws
pub mod WrittenLaws
pub mod SearchedLaws
pub mod Cases
