pub mod Wanting
pub mod Laws
pub mod Answers
pub mod Cutting
pub mod Pinned
pub mod Settles
pub mod Worked
pub mod Bites
