pub mod WordLemmas
mod OptionLemmas
mod WorkedExamples
