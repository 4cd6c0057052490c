pub mod Sign
pub mod Means
pub mod Pinned
