pub mod Walking
pub mod Finding
pub mod Pieces
pub mod ErrorRows
pub mod Replying
pub mod ReadAs
pub mod Sourcing
pub mod Telling
mod Giving
pub mod Turning
pub mod Noting
pub mod NoteLines
pub mod Texts
pub mod Remaining
pub mod Hearing
pub mod Dialogue
pub mod Words
pub mod Fields
pub mod Asked
pub mod Changing
pub mod Probing
pub mod Reaching
pub mod Joining
pub mod Meaning
pub mod Passing
pub mod Serving
pub mod Closing
mod WorkedRoads
mod WorkedSessions
