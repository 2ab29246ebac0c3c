pub mod GoodLaws
pub mod SlotLaws
pub mod EntryLaws
pub mod ForgetLaws
pub mod PathLaws
