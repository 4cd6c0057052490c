pub mod Leaf
pub mod Meaning
pub mod Answers
pub mod Steps
