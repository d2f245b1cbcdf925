pub mod Arrivals
pub mod Gates
pub mod Pairs
pub mod Serves
pub mod Working
pub mod Prompts
