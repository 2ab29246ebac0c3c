pub mod Converted
pub mod Comes
pub mod Meaning
pub mod True
pub mod Parts
pub mod Cases
