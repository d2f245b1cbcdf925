pub mod Blanks
pub mod Forms
pub mod LineEnds
pub mod Numbers
pub mod Options
pub mod Rows
pub mod Words
