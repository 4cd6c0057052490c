pub mod Parsing
pub mod Meaning
pub mod Answers
pub mod Promises
pub mod ReadBack
pub mod Worked
