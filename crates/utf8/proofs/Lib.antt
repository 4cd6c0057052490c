pub mod Laws
pub mod Judges
pub mod Local
pub mod Pinned
