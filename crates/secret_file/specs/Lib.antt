pub mod Protection
pub mod Opens
pub mod Codes
pub mod Answers
pub mod Steps
pub mod Protects
