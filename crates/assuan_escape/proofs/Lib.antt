pub mod EscapeLemmas
mod OnlyData
