pub mod Entries
pub mod Trust
pub mod Written
