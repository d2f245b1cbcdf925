-- The forms of the outside in memory.
pub mod Keys
pub mod Launches
pub mod Listening
pub mod Plans
