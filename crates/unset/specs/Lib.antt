pub mod Beside
pub mod Head
pub mod Unset
