pub mod Ink
pub mod Dues
pub mod Codes
pub mod Ahead
pub mod Names
pub mod Taking
