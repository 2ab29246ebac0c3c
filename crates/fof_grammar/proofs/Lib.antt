pub mod Entries
pub mod Tables
pub mod StackLaws
pub mod AheadLaws
pub mod Running
pub mod ReadLaws
