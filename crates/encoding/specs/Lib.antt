pub mod Encoding
pub mod Promises
