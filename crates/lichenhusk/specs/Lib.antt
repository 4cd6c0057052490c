pub mod Strip
pub mod Promises
