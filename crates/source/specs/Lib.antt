pub mod Pairs
pub mod Names
pub mod Steps
