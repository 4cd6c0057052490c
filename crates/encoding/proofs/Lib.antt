pub mod Laws
pub mod Pinned
