pub mod Laws
pub mod Means
pub mod Appended
pub mod Cut
pub mod Pinned
pub mod Fixed
