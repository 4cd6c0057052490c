pub mod Path
pub mod Meaning
pub mod Answers
pub mod Steps
