pub mod Finding
pub mod Nearer
pub mod Labels
pub mod Chains
