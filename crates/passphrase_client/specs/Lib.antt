pub mod Steps
pub mod Endings
pub mod Verdicts
pub mod Inputs
pub mod Messages
pub mod Runs
pub mod Laws
