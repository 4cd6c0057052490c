pub mod Meaning
pub mod Promises
