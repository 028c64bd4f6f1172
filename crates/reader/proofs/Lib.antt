pub mod Bytes
pub mod Dues
pub mod Chains
pub mod Stops
pub mod Turns
pub mod Verdicts
