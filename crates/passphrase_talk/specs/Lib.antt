pub mod Contacts
pub mod Turns
pub mod Dialogues
pub mod Visits
pub mod MemContacts
