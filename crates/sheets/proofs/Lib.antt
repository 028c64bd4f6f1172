pub mod Patterns
pub mod Rows
pub mod Stops
pub mod Verdicts
