pub mod Width
pub mod Limits
pub mod Promises
