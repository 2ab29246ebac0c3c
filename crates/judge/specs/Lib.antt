pub mod Halves
pub mod Verdict
