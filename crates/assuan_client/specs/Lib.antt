pub mod Answers
pub mod Connections
pub mod Forms
pub mod Skipping
pub mod Writing
