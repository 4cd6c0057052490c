pub mod Reading
pub mod Answers
pub mod Meaning
pub mod Promises
