mod EntryLaw
mod FirstEntries
mod Judgements
mod LastLines
mod LineWords
mod NewEntries
mod Pairs
mod WorkedExamples
