pub mod Laws
pub mod Bounds
pub mod Begins
pub mod Truncated
pub mod Pinned
