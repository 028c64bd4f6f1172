pub mod Paths
pub mod Writes
pub mod Grows
pub mod Deep
pub mod Finds
pub mod Holds
