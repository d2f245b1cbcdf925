-- Each error line has its cause.
pub mod Asides
pub mod CacheRequests
pub mod ErrorLines
pub mod Explained
pub mod Explaining
pub mod Faulty
pub mod KeyExplained
pub mod KeyActions
pub mod KeyRequests
pub mod LineFaults
pub mod Prompted
pub mod Replying
pub mod TrustExplained
pub mod Uncaused
