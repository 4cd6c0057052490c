pub mod Object
pub mod Meaning
pub mod Answers
pub mod Steps
