pub mod Sets
pub mod Ahead
pub mod Machine
pub mod Parts
pub mod Recast
