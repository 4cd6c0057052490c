pub mod Signed
pub mod Meaning
pub mod Promises
