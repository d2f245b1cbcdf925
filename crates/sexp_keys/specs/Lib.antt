pub mod Names
pub mod Parameters
pub mod Key
pub mod Faults
pub mod Lists
pub mod Named
