pub mod Members
mod Places
mod Words
