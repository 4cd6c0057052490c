pub mod Doubles
pub mod Steps
