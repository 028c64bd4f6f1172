pub mod Children
pub mod Ends
pub mod Adds
pub mod Stores
