pub mod Counts
pub mod Versions
pub mod Defaults
pub mod Text
pub mod Table
pub mod OptionValues
