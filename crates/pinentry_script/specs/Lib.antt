pub mod Entries
pub mod Responses
pub mod Turns
pub mod Writing
pub mod Parsing
pub mod Steps
pub mod Sessions
