pub mod Rows
pub mod Sheets
