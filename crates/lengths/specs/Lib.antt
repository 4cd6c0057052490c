pub mod Lengths
pub mod Meaning
pub mod Promises
pub mod Steps
