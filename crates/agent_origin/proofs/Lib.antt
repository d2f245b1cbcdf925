mod TrustDone
mod Outer
mod OuterKeys
mod OuterTrust
pub mod OuterSessions
pub mod OuterRuns
mod NewTrustFiles
mod WorkedExamples
mod WorkedExchanges
mod AtDoor
pub mod Between
pub mod OwnCommands
mod Naming
pub mod OuterPrompts
pub mod EachCache
pub mod EachLine
pub mod EachTrust
pub mod Beside
mod Meeting
mod Serving
pub mod Turning
