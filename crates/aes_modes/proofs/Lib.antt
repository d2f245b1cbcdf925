pub mod Chains
pub mod Undone
pub mod OcbMasks
pub mod OcbSteps
pub mod OcbUndone
pub mod OcbTag
pub mod Tags
mod WorkedExamples
