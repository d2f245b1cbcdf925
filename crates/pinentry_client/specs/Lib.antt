pub mod Settings
pub mod Answers
pub mod Talking
pub mod States
pub mod Dialogues
pub mod Whole
pub mod Children
