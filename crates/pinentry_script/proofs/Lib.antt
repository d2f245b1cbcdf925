pub mod Files
mod Saying
mod Serving
mod WorkedExamples
