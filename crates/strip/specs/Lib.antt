pub mod Shapes
pub mod Steps
pub mod Strip
pub mod Reading
pub mod Promises
