pub mod SaidLaws
pub mod StringLaws
