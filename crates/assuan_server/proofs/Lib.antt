pub mod Clients
mod ErrorLines
mod Inquiring
pub mod NoteLines
mod OnlyOutcome
pub mod Reading
pub mod Saying
pub mod StillOpen
mod Writing
