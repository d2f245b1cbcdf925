pub mod Ahead
pub mod Lines
pub mod Next
pub mod Reading
pub mod Skipping
pub mod Stops
pub mod Written
