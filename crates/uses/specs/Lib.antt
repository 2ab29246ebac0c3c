pub mod Heads
pub mod Walk
pub mod Use
