pub mod Keys
pub mod Chains
pub mod Rows
