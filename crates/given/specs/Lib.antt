pub mod Given
pub mod Meaning
pub mod Promises
