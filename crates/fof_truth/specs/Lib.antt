pub mod Formula
pub mod Truth
pub mod Numbered
pub mod Sentence
pub mod Part
pub mod Book
pub mod Meaning
pub mod Cases
