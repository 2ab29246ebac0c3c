pub mod Terminal
pub mod Name
pub mod Aids
pub mod Grammar
pub mod Decided
pub mod Sound
pub mod Coded
