pub mod Joined
pub mod Counts
pub mod Few
pub mod Counted
pub mod Nearest
pub mod Bits
pub mod Layers
