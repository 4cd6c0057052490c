pub mod Limits
pub mod Dictionary
pub mod Meaning
pub mod Answers
pub mod Steps
pub mod Wanted
