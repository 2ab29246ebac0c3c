pub mod Chained
pub mod Planned
