mod Asking
pub mod Carrying
mod Helping
pub mod Replying
pub mod Secrets
mod Quieting
mod VersionLines
mod WorkedExamples
mod WorkedExchanges
mod WorkedPrompts
