pub mod Pushing
pub mod Reading
pub mod Sound
mod WorkedExamples
mod WorkedNumbers
pub mod LineParts
