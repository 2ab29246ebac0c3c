pub mod Choice
pub mod Tells
pub mod Text
pub mod Each
