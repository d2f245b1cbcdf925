pub mod Lines
pub mod Items
pub mod Faults
pub mod KeyItem
pub mod KeyText
pub mod KeyFile
pub mod Codes
pub mod Canon
