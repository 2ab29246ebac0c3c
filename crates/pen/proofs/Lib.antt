pub mod LaidLaws
pub mod NumeralLaws
