pub mod Lines
pub mod Asking
pub mod Codes
pub mod Fields
pub mod Refusals
