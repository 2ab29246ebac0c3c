pub mod Proposed
pub mod Meaning
pub mod Cases
