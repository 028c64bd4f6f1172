pub mod Digits
pub mod Spelling
pub mod PrefixSpelling
pub mod Nodes
pub mod Ready
