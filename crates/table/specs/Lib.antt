pub mod Slots
pub mod Good
pub mod Recall
