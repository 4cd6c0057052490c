pub mod Element
pub mod Meaning
pub mod Answers
pub mod Promises
