-- Worked examples of the definitions.
pub mod WorkedExact
pub mod WorkedExamples
pub mod WorkedLink
pub mod WorkedPassphrases
pub mod WorkedRefusals
pub mod WorkedRuns
pub mod WorkedTrust
