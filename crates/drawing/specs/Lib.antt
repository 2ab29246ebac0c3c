pub mod Spelled
pub mod Chosen
pub mod Drawn
pub mod Writing
