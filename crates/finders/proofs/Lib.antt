pub mod Placed
pub mod Nearest
pub mod Labels
pub mod Held
pub mod Chains
