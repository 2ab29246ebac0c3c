pub mod BesideLaws
pub mod NumberLaws
