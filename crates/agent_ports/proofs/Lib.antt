pub mod Digits
pub mod Given
pub mod Known
pub mod Leading
pub mod Writing
mod KeyMaps
mod Pieces
mod Places
