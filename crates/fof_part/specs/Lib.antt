pub mod Sign
pub mod Spelled
pub mod Mark
pub mod Due
pub mod Lines
pub mod Files
pub mod Made
pub mod Cases
