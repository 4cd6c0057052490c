pub mod Answers
pub mod Promises
