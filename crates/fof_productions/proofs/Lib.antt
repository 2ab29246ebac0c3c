pub mod Once
pub mod Right
pub mod Same
pub mod Soundly
pub mod Examples
