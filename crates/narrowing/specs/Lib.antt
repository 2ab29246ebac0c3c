pub mod Sets
pub mod Tried
