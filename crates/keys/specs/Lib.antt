pub mod Key
pub mod Walk
pub mod Chains
pub mod Keys
