pub mod List
pub mod Meaning
pub mod Answers
pub mod Steps
