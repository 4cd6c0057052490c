pub mod Laws
pub mod Means
pub mod Pinned
