pub mod Kinds
pub mod Each
pub mod Rows
pub mod Taking
