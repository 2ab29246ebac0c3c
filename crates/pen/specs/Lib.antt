pub mod Laid
pub mod Numeral
