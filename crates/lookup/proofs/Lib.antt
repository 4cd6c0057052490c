pub mod FromAbove
pub mod Finds
pub mod Pinned
pub mod Appended
pub mod Cut
pub mod Says
pub mod Raised
