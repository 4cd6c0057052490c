pub mod Pieces
pub mod Feed
pub mod Promises
pub mod Meaning
pub mod Worked
