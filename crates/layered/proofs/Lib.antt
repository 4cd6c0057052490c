pub mod TheFields
pub mod Smallest
pub mod Canonical
pub mod AnyOrder
pub mod Readings
pub mod ReadBack
pub mod Tree
pub mod Says
