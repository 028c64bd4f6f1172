pub mod Nearest
pub mod Picks
pub mod Counting
pub mod Tallies
