pub mod Modes
pub mod Slots
pub mod Shelves
pub mod Arranged
pub mod Hashes
pub mod SlotOrders
pub mod Deadlines
pub mod Passphrases
