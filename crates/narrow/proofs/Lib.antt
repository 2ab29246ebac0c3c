pub mod HeadLaws
pub mod FillLaws
pub mod NoHeadLaws
pub mod MarkLaws
pub mod KeptLaws
pub mod FactLaws
pub mod NarrowLaws
