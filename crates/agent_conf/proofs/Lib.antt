mod CountingLemmas
mod LastLemmas
mod LimitLemmas
mod LineLemmas
mod NearestLemmas
mod NumberLemmas
mod WordLemmas
mod WorkedExamples
