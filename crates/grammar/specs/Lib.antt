pub mod Derives
pub mod Machine
pub mod Recast
