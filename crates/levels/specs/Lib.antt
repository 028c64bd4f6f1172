pub mod Levels
pub mod Told
pub mod Maps
