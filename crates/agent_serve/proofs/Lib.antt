mod Counting
pub mod Lifting
mod Pairs
mod WorkedExamples
pub mod Works
mod OnePrompt
pub mod PromptedEvents
pub mod PromptedLines
pub mod PromptedSessions
mod WorkedPrompts
