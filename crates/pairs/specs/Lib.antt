pub mod Checks
pub mod Meaning
pub mod Steps
