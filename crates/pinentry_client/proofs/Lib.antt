mod Talks
mod Readiness
mod Faults
pub mod Calling
mod WholeLemmas
mod OnlyTalk
mod OnlyDialogue
mod Spending
pub mod Children
mod WorkedExamples
