pub mod AtPrompt
pub mod Doing
pub mod EachEvent
pub mod EachRequest
pub mod KeyData
pub mod KeyFiles
pub mod ListedKeys
pub mod Opening
pub mod Partial
pub mod Reading
pub mod Requesting
pub mod Seating
pub mod Unwrapping
mod WorkedExamples
mod WorkedExchanges
mod WorkedFiles
mod WorkedPrompts
