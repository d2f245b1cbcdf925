pub mod Escapes
pub mod DataLines
