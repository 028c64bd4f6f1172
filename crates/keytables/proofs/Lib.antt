pub mod Latest
pub mod Chains
pub mod Same
pub mod Rows
