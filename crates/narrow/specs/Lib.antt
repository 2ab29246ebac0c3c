pub mod Heads
pub mod Kept
pub mod Narrow
