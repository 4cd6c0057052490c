pub mod Rows
pub mod Means
pub mod AllRows
pub mod Pinned
pub mod Appended
pub mod Cut
pub mod Says
pub mod Raised
