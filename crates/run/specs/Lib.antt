pub mod Run
pub mod Meaning
pub mod Promises
