pub mod Alike
mod Answering
pub mod OnlyAnswer
mod Sending
mod Skipping
mod WorkedExamples
