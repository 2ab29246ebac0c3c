pub mod Key
pub mod WordAt
pub mod Shape
pub mod Bars
pub mod Judged
