pub mod Cbc
pub mod Ocb
pub mod Masks
