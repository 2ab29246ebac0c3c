pub mod Layout
pub mod Frame
pub mod Files
pub mod Spot
pub mod Table
pub mod Where
pub mod Start
