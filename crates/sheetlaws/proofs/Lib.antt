pub mod Bytes
pub mod Fine
pub mod Rules
pub mod Places
pub mod Written
pub mod Read
