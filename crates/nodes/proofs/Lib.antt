pub mod Laws
pub mod Inside
pub mod Local
pub mod Marks
pub mod Steps
pub mod Opens
