pub mod Ahead
pub mod Decided
pub mod Parts
pub mod Places
pub mod OnlyReading
pub mod OnlyTook
mod Reading
pub mod ReadingOn
pub mod Sending
mod SkippedLines
mod Slices
mod WorkedExamples
