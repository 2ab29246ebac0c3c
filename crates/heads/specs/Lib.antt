pub mod Heads
pub mod Predicate
