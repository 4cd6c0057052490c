pub mod Inside
pub mod Answers
