pub mod Stride
pub mod Answers
pub mod Steps
