pub mod Laws
pub mod Appended
pub mod Pinned
pub mod Results
