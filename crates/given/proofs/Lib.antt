pub mod Means
pub mod Appended
