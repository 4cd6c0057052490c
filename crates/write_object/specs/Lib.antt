pub mod Writing
pub mod Meaning
pub mod Answers
pub mod Promises
pub mod Steps
pub mod Worked
