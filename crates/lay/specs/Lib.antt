pub mod Items
pub mod Bytes
pub mod Steps
