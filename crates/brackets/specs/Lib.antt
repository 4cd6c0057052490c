pub mod Brackets
pub mod Steps
pub mod Meaning
