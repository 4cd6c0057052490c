pub mod Many
pub mod Meaning
pub mod Answers
pub mod Promises
