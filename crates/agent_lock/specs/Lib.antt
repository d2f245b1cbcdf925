pub mod Journals
pub mod Keeping
pub mod Counting
pub mod Shares
pub mod Closings
pub mod Attempts
