pub mod Mentions
pub mod Open
