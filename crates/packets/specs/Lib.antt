pub mod Packets
pub mod Layouts
