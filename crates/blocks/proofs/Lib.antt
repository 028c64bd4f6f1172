pub mod Headers
pub mod Steps
pub mod Trips
