pub mod Laws
pub mod ReadBack
pub mod Means
pub mod Pinned
pub mod Worked
