mod Spelling
mod WorkedExamples
pub mod NoLines
