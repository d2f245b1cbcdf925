pub mod Answering
pub mod AtOnce
mod Causes
mod Counts
mod Courses
mod Decisions
pub mod DoorAnswering
pub mod Fair
pub mod LongLines
mod Own
pub mod OwnSessions
pub mod RunExchanges
mod Standing
mod Worked
